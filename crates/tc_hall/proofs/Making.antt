-- How passes are made and joined.
use Rattle.std.proofs.Common.{◌≡◌, ◌≢◌, ◌⊎◌, ℕ, zero, suc, ◌+◌, ◌<◌, ◌≤◌, Bool, true, false, List, [], ◌∷◌, ◌++◌, length, set, replicate, sym, refl, ap, ◌∙◌, subst, ⊎_elim, inl, inr, arith, Some, None}
use Rattle.tc_hall.proofs.Vocabulary.{Line, AreApart, AreLocksPlaced, ArePlaced, Block, PassCall, Free, HasStopped, Homes, IsFree, IsPass, Joins, KeptHall, Knows, Lies, LiesLock, LockView, Look, PackageView, Put, Shown, Splits, Spot, Stop, Stopped, HallTerms, clean, dealt, fresh, get_elem?, gone, home, inside, length-replicate, locks, merged, none, out, some, some-injective, some-ne-none}
use Rattle.tc_hall.proofs.Vocabulary.{Take, threads}
use Rattle.tc_hall.specs.declared.board.PassCall.TheVariants.{Claim, Commit}
use mathlib.Core.Logic.{dite}
use mathlib.Core.Option as maybe
use native.Mathlib.Decide.{ℕ_discrete}
use Rattle.atomic_table.proofs.Lists.{at_set, set_here, set_else, at_longer, at_snoc}
use Rattle.tc_mutex_spec.proofs.ListLaws.{there}
use Rattle.tc_hall.proofs.Placing.{stays}
use Rattle.tc_hall.proofs.Packing.{locks_stay}
use Rattle.tc_hall.proofs.Cases.{apart}
use Rattle.tc_hall.proofs.Listing.{at_append, either_at, listed_deals, listed_joins}
use Rattle.tc_hall.proofs.Ranks.{pass_kept, pass_same, passes_stay, stop_stays, IsTrueCall}
use Rattle.tc_lemmas.proofs.Lists.{at_end}

none_there : {A : Type 0} (n t : ℕ) (p : A) → ¬ (get_elem? (replicate n None) t ≡ some (Some p))
none_there zero t p e = some-ne-none (Some p) (sym e)
none_there (suc n) zero p e = let f : None ≡ Some p = some-injective None (Some p) e in cc f
none_there (suc n) (suc t) p e = none_there n t p e

no_pinned : (n t : ℕ) → ¬ (get_elem? (replicate n false) t ≡ some true)
no_pinned zero t e = some-ne-none true (sym e)
no_pinned (suc n) zero e = let f : false ≡ true = some-injective false true e in cc f
no_pinned (suc n) (suc t) e = no_pinned n t e

pub clean_free : (image : Shown) (n m worker : ℕ) (maker : Bool) → IsFree (clean image n m worker maker)
clean_free image n m worker maker = record { packages = λ t p e. none_there n t p e; locks = λ i l e. none_there m i l e }

pub gone_free : IsFree gone
gone_free = record { packages = λ t p e. some-ne-none (Some p) (sym e); locks = λ i l e. some-ne-none (Some l) (sym e) }

-- a pass that has told nothing
pub clean_pass : (image its : Shown) (workers : ℕ) (h : List Block) (ws : List ℕ) (n m worker : ℕ) (maker : Bool) → its ≡ image → worker < workers → n ≡ length image.entries → IsPass image workers h ws (clean its n m worker maker)
clean_pass image its workers h ws n m worker maker same below long = record {
  of = λ live. same;
  worker = below;
  joined = λ i w e. absurd (some-ne-none w (sym e));
  sealed = λ i b e. absurd (some-ne-none b (sym e));
  done = λ i t b e. absurd (some-ne-none (Look t 2) (sym e));
  stop = λ i e. absurd (some-ne-none Stop (sym e));
  stopped = λ i e. absurd (some-ne-none (Stopped 1) (sym e));
  pinned = λ t e. absurd (no_pinned n t e);
  sized = λ live. length-replicate n false ∙ long;
}

module _ (n m : ℕ) (places : List PackageView) (segments : List LockView) (ws : List ℕ) (hs : Homes) (vs : List Knows) (pl : ArePlaced n places ws hs vs) (lp : AreLocksPlaced n m segments ws hs vs) where
  lies_more : (w : Knows) (t : ℕ) (p : PackageView) (o : maybe.Option ℕ) → Lies ws hs vs t p o → Lies ws hs (vs ++ w ∷ []) t p o
  lies_more w t p none l = l
  lies_more w t p (some id) l = record { view = l.view; pass = at_longer vs (w ∷ []) id l.view l.pass; has = l.has; word = l.word; slot = l.slot; held = l.held }

  lock_more : (w : Knows) (i : ℕ) (l : LockView) (s : Spot) → LiesLock n ws hs vs i l s → LiesLock n ws hs (vs ++ w ∷ []) i l s
  lock_more w i l home o = o
  lock_more w i l (inside t) o = o
  lock_more w i l (out id) o = record { view = o.view; pass = at_longer vs (w ∷ []) id o.view o.pass; has = o.has; word = o.word; empty = o.empty; held = o.held }

  -- one pass more, which has nothing out
  pub more : (w : Knows) → IsFree w → length w.packages ≡ n → ArePlaced n places ws hs (vs ++ w ∷ [])
  more w free wide = record {
    holder = pl.holder;
    each = λ t p e. lies_more w t p (pl.holder t) (pl.each t p e);
    sized = λ j x e live. ⊎_elim (λ (o : get_elem? vs j ≡ some x). pl.sized j x o live) (λ (o : w ≡ x). ap (λ (z : Knows). length z.packages) (sym o) ∙ wide) (at_snoc vs w x j e);
    owned = λ j x t p e has. ⊎_elim (λ (o : get_elem? vs j ≡ some x). pl.owned j x t p o has) (λ (o : w ≡ x). absurd (free.packages t p (ap (λ (z : Knows). get_elem? z.packages t) o ∙ has))) (at_snoc vs w x j e);
  }

  pub locks_more : (w : Knows) → IsFree w → length w.locks ≡ m → AreLocksPlaced n m segments ws hs (vs ++ w ∷ [])
  locks_more w free wide = record {
    spot = lp.spot;
    each = λ i l e. lock_more w i l (lp.spot i) (lp.each i l e);
    sized = λ j x e live. ⊎_elim (λ (o : get_elem? vs j ≡ some x). lp.sized j x o live) (λ (o : w ≡ x). ap (λ (z : Knows). length z.locks) (sym o) ∙ wide) (at_snoc vs w x j e);
    owned = λ j x i l e has. ⊎_elim (λ (o : get_elem? vs j ≡ some x). lp.owned j x i l o has) (λ (o : w ≡ x). absurd (free.locks i l (ap (λ (z : Knows). get_elem? z.locks i) o ∙ has))) (at_snoc vs w x j e);
    packed = lp.packed;
  }

  -- a pass with nothing out is no more
  module _ (w : Knows) (j : ℕ) (free : IsFree w) (at : get_elem? vs j ≡ some w) where
    lies_less : (t : ℕ) (p : PackageView) (o : maybe.Option ℕ) → Lies ws hs vs t p o → Lies ws hs (set vs j gone) t p o
    lies_less t p none l = l
    lies_less t p (some id) l = dite (ℕ_discrete id j)
        (λ (is : id ≡ j). let same : w ≡ l.view = some-injective w l.view (sym at ∙ (ap (get_elem? vs) (sym is) ∙ l.pass)) in absurd (free.packages t p (ap (λ (z : Knows). get_elem? z.packages t) same ∙ l.has)))
        (λ (ne : id ≢ j). record { view = l.view; pass = set_else vs j id gone ne ∙ l.pass; has = l.has; word = l.word; slot = l.slot; held = l.held })

    lock_less : (i : ℕ) (l : LockView) (s : Spot) → LiesLock n ws hs vs i l s → LiesLock n ws hs (set vs j gone) i l s
    lock_less i l home o = o
    lock_less i l (inside t) o = o
    lock_less i l (out id) o = dite (ℕ_discrete id j)
        (λ (is : id ≡ j). let same : w ≡ o.view = some-injective w o.view (sym at ∙ (ap (get_elem? vs) (sym is) ∙ o.pass)) in absurd (free.locks i l (ap (λ (z : Knows). get_elem? z.locks i) same ∙ o.has)))
        (λ (ne : id ≢ j). record { view = o.view; pass = set_else vs j id gone ne ∙ o.pass; has = o.has; word = o.word; empty = o.empty; held = o.held })

    pub less : ArePlaced n places ws hs (set vs j gone)
    less = record {
      holder = pl.holder;
      each = λ t p e. lies_less t p (pl.holder t) (pl.each t p e);
      sized = λ i x e live. ⊎_elim (λ (o : (i ≡ j) × (gone ≡ x)). absurd (apart x.spent live (ap (λ (z : Knows). z.spent) (sym o.1)))) (λ (o : (i ≢ j) × (get_elem? vs i ≡ some x)). pl.sized i x o.1 live) (at_set vs j i gone x e);
      owned = λ i x t p e has. ⊎_elim (λ (o : (i ≡ j) × (gone ≡ x)). absurd (gone_free.packages t p (ap (λ (z : Knows). get_elem? z.packages t) o.1 ∙ has))) (λ (o : (i ≢ j) × (get_elem? vs i ≡ some x)). pl.owned i x t p o.1 has) (at_set vs j i gone x e);
    }

    pub locks_less : AreLocksPlaced n m segments ws hs (set vs j gone)
    locks_less = record {
      spot = lp.spot;
      each = λ i l e. lock_less i l (lp.spot i) (lp.each i l e);
      sized = λ i x e live. ⊎_elim (λ (o : (i ≡ j) × (gone ≡ x)). absurd (apart x.spent live (ap (λ (z : Knows). z.spent) (sym o.1)))) (λ (o : (i ≢ j) × (get_elem? vs i ≡ some x)). lp.sized i x o.1 live) (at_set vs j i gone x e);
      owned = λ a x i l e has. ⊎_elim (λ (o : (a ≡ j) × (gone ≡ x)). absurd (gone_free.locks i l (ap (λ (z : Knows). get_elem? z.locks i) o.1 ∙ has))) (λ (o : (a ≢ j) × (get_elem? vs a ≡ some x)). lp.owned a x i l o.1 has) (at_set vs j a gone x e);
      packed = lp.packed;
    }

-- where a view of a list with one replaced comes from: the new one, or an old one elsewhere
abbrev Split : List Knows → ℕ → Knows → ℕ → Knows → Type 0
Split vs id w j x = ((j ≡ id) × (w ≡ x)) ⊎ ((j ≢ id) × (get_elem? vs j ≡ some x))

-- of the passes' numbers, when one more is made
module _ (vs : List Knows) (id : ℕ) (v : Knows) (n m : ℕ) (at : get_elem? vs id ≡ some v) (live : v.spent ≡ false) (makes : v.maker ≡ true) (room : v.made < v.worker) (a : AreApart vs) where
  abbrev pub left : Knows
  left = dealt v

  abbrev pub right : Knows
  right = clean v.image n m v.made false

  -- a view that was there, with its old form
  record Old (j : ℕ) (x : Knows) : Type 0 where
    pub old : Knows
    pub there : get_elem? vs j ≡ some old
    pub worker : x.worker ≡ old.worker
    pub maker : x.maker ≡ old.maker
    pub made : old.made ≤ x.made
    pub spent : x.spent ≡ old.spent
    pub joined : x.joined ≡ old.joined
    pub locks : x.locks ≡ old.locks

  old_or_new : (j : ℕ) (x : Knows) → get_elem? (set vs id left ++ right ∷ []) j ≡ some x → Old j x ⊎ ((j ≡ length (set vs id left)) × (right ≡ x))
  old_or_new j x e = ⊎_elim
      (λ (o : get_elem? (set vs id left) j ≡ some x). inl (⊎_elim
      (λ (z : (j ≡ id) × (left ≡ x)). subst (Old j) z.1 record { old = v; there = ap (get_elem? vs) z.0 ∙ at; worker = refl; maker = refl; made = omega arith; spent = refl; joined = refl; locks = refl })
      (λ (z : (j ≢ id) × (get_elem? vs j ≡ some x)). record { old = x; there = z.1; worker = refl; maker = refl; made = omega arith; spent = refl; joined = refl; locks = refl })
      (at_set vs id j left x o)))
      (λ (o : (j ≡ length (set vs id left)) × (right ≡ x)). inr o)
      (at_end (set vs id left) right x j e)

  -- a live pass has another number than the new one
  other_number : (j : ℕ) (x : Knows) → Old j x → x.spent ≡ false → x.worker ≢ v.made
  other_number j x o li e = dite (ℕ_discrete id j)
      (λ (is : id ≡ j). let same : v ≡ o.old = some-injective v o.old (sym at ∙ (ap (get_elem? vs) is ∙ o.there)) in let w : x.worker ≡ v.worker = o.worker ∙ ap (λ (z : Knows). z.worker) (sym same) in omega arith)
      (λ (ne : id ≢ j). let b = a.maker id j v o.old at o.there makes (sym o.spent ∙ li) ne in let w = o.worker in omega arith)

  pub apart_deals : AreApart (set vs id left ++ right ∷ [])
  apart_deals = record {
    apart = λ i j x y ex ey lx ly e. ⊎_elim
        (λ (p : Old i x). ⊎_elim (λ (q : Old j y). a.apart i j p.old q.old p.there q.there (sym p.spent ∙ lx) (sym q.spent ∙ ly) (sym p.worker ∙ (e ∙ q.worker)))
        (λ (q : (j ≡ length (set vs id left)) × (right ≡ y)). absurd (other_number i x p lx (e ∙ ap (λ (z : Knows). z.worker) (sym q.1)))) (old_or_new j y ey))
        (λ (p : (i ≡ length (set vs id left)) × (right ≡ x)). ⊎_elim (λ (q : Old j y). absurd (other_number j y q ly (sym e ∙ ap (λ (z : Knows). z.worker) (sym p.1))))
        (λ (q : (j ≡ length (set vs id left)) × (right ≡ y)). p.0 ∙ sym q.0) (old_or_new j y ey)) (old_or_new i x ex);
    joined = λ i j e x y ex ey ly h. ⊎_elim
        (λ (p : Old i x). let h' : get_elem? p.old.joined e ≡ some y.worker = ap (λ (l : List ℕ). get_elem? l e) (sym p.joined) ∙ h in
        ⊎_elim (λ (q : Old j y). a.joined i j e p.old q.old p.there q.there (sym q.spent ∙ ly) (h' ∙ ap (λ (z : ℕ). some z) q.worker))
        (λ (q : (j ≡ length (set vs id left)) × (right ≡ y)). let b = a.fresh id i e y.worker v p.old at makes p.there h' in let w : v.made ≡ y.worker = ap (λ (z : Knows). z.worker) q.1 in absurd (omega arith)) (old_or_new j y ey))
        (λ (p : (i ≡ length (set vs id left)) × (right ≡ x)). some-ne-none y.worker (sym (ap (λ (z : Knows). get_elem? z.joined e) p.1 ∙ h))) (old_or_new i x ex);
    maker = λ i j x y ex ey mx ly ne. ⊎_elim
        (λ (p : Old i x). ⊎_elim (λ (q : Old j y). let b = a.maker i j p.old q.old p.there q.there (sym p.maker ∙ mx) (sym q.spent ∙ ly) ne in let w = q.worker in let m = p.made in omega arith)
        (λ (q : (j ≡ length (set vs id left)) × (right ≡ y)). let is : i ≡ id = a.sole i id p.old v p.there at (sym p.maker ∙ mx) makes in
        let x_is : left ≡ x = the_maker i x is ex in let w : v.made ≡ y.worker = ap (λ (z : Knows). z.worker) q.1 in let m : v.made + 1 ≡ x.made = ap (λ (z : Knows). z.made) x_is in omega arith) (old_or_new j y ey))
        (λ (p : (i ≡ length (set vs id left)) × (right ≡ x)). absurd (apart x.maker (ap (λ (z : Knows). z.maker) (sym p.1)) mx)) (old_or_new i x ex);
    fresh = λ i j e u x y ex mx ey h. ⊎_elim
        (λ (p : Old i x). ⊎_elim (λ (q : Old j y). let b = a.fresh i j e u p.old q.old p.there (sym p.maker ∙ mx) q.there (ap (λ (l : List ℕ). get_elem? l e) (sym q.joined) ∙ h) in let m = p.made in omega arith)
        (λ (q : (j ≡ length (set vs id left)) × (right ≡ y)). absurd (some-ne-none u (sym (ap (λ (z : Knows). get_elem? z.joined e) q.1 ∙ h)))) (old_or_new j y ey))
        (λ (p : (i ≡ length (set vs id left)) × (right ≡ x)). absurd (apart x.maker (ap (λ (z : Knows). z.maker) (sym p.1)) mx)) (old_or_new i x ex);
    sole = λ i j x y ex ey mx my. ⊎_elim
        (λ (p : Old i x). ⊎_elim (λ (q : Old j y). a.sole i j p.old q.old p.there q.there (sym p.maker ∙ mx) (sym q.maker ∙ my))
        (λ (q : (j ≡ length (set vs id left)) × (right ≡ y)). absurd (apart y.maker (ap (λ (z : Knows). z.maker) (sym q.1)) my)) (old_or_new j y ey))
        (λ (p : (i ≡ length (set vs id left)) × (right ≡ x)). absurd (apart x.maker (ap (λ (z : Knows). z.maker) (sym p.1)) mx)) (old_or_new i x ex);
    spent = λ i x e s. ⊎_elim (λ (p : Old i x). p.locks ∙ a.spent i p.old p.there (sym p.spent ∙ s))
        (λ (p : (i ≡ length (set vs id left)) × (right ≡ x)). absurd (apart x.spent (ap (λ (z : Knows). z.spent) (sym p.1)) s)) (old_or_new i x e);
  }
    where
      the_maker : (i : ℕ) (x : Knows) → i ≡ id → get_elem? (set vs id left ++ right ∷ []) i ≡ some x → left ≡ x
      the_maker i x is e = some-injective left x (sym (at_longer (set vs id left) (right ∷ []) i left (ap (get_elem? (set vs id left)) is ∙ set_here vs id left (there vs id v v at).0)) ∙ e)

-- of the passes' numbers, when one is joined into another
module _ (vs : List Knows) (id other : ℕ) (v w : Knows) (at : get_elem? vs id ≡ some v) (its : get_elem? vs other ≡ some w) (live : v.spent ≡ false) (lives : w.spent ≡ false) (ne : other ≢ id) (a : AreApart vs) where
  abbrev pub both : Knows
  both = merged v w

  abbrev pub after : List Knows
  after = set (set vs id both) other gone

  record Was (j : ℕ) (x : Knows) : Type 0 where
    pub old : Knows
    pub there : get_elem? vs j ≡ some old
    pub far : j ≢ other
    pub worker : x.worker ≡ old.worker
    pub maker : x.maker ≡ old.maker
    pub made : x.made ≡ old.made
    pub spent : x.spent ≡ old.spent
    pub joined : (e u : ℕ) → get_elem? x.joined e ≡ some u → ((f : ℕ) × (get_elem? old.joined f ≡ some u)) ⊎ ((u ≡ w.worker) ⊎ ((f : ℕ) × (get_elem? w.joined f ≡ some u)))
    pub locks : x.locks ≡ old.locks

  was_or_gone : (j : ℕ) (x : Knows) → get_elem? after j ≡ some x → Was j x ⊎ (gone ≡ x)
  was_or_gone j x e = ⊎_elim
      (λ (o : (j ≡ other) × (gone ≡ x)). inr o.1)
      (λ (o : (j ≢ other) × (get_elem? (set vs id both) j ≡ some x)). inl (⊎_elim
      (λ (z : (j ≡ id) × (both ≡ x)). subst (Was j) z.1 record {
        old = v;
        there = ap (get_elem? vs) z.0 ∙ at;
        far = o.0;
        worker = refl;
        maker = refl;
        made = refl;
        spent = refl;
        locks = refl;
        joined = λ e u h. ⊎_elim (λ h. inl (e, h)) (λ (h : (f : ℕ) × (get_elem? (w.worker ∷ w.joined) f ≡ some u)). in_second h.0 u h.1) (either_at v.joined (w.worker ∷ w.joined) e u h);
      })
      (λ (z : (j ≢ id) × (get_elem? vs j ≡ some x)). record { old = x; there = z.1; far = o.0; worker = refl; maker = refl; made = refl; spent = refl; locks = refl; joined = λ e u h. inl (e, h) })
      (at_set vs id j both x o.1)))
      (at_set (set vs id both) other j gone x e)
    where
      in_second : (f u : ℕ) → get_elem? (w.worker ∷ w.joined) f ≡ some u → ((g : ℕ) × (get_elem? v.joined g ≡ some u)) ⊎ ((u ≡ w.worker) ⊎ ((g : ℕ) × (get_elem? w.joined g ≡ some u)))
      in_second zero u h = inr (inl (sym (some-injective w.worker u h)))
      in_second (suc f) u h = inr (inr (f, h))

  not_gone : (x : Knows) → gone ≡ x → x.spent ≡ false → ⊥
  not_gone x e l = apart x.spent l (ap (λ (z : Knows). z.spent) (sym e))

  no_maker : (x : Knows) → gone ≡ x → x.maker ≡ true → ⊥
  no_maker x e m = apart x.maker (ap (λ (z : Knows). z.maker) (sym e)) m

  pub apart_joins : AreApart after
  apart_joins = record {
    apart = λ i j x y ex ey lx ly e. ⊎_elim
        (λ (p : Was i x). ⊎_elim (λ (q : Was j y). a.apart i j p.old q.old p.there q.there (sym p.spent ∙ lx) (sym q.spent ∙ ly) (sym p.worker ∙ (e ∙ q.worker))) (λ q. absurd (not_gone y q ly)) (was_or_gone j y ey))
        (λ p. absurd (not_gone x p lx)) (was_or_gone i x ex);
    joined = λ i j e x y ex ey ly h. ⊎_elim
        (λ (q : Was j y). ⊎_elim
        (λ (p : Was i x). ⊎_elim (λ (o : (f : ℕ) × (get_elem? p.old.joined f ≡ some y.worker)). a.joined i j o.0 p.old q.old p.there q.there (sym q.spent ∙ ly) (o.1 ∙ ap (λ (z : ℕ). some z) q.worker))
        (λ o. ⊎_elim (λ (o : y.worker ≡ w.worker). q.far (a.apart j other q.old w q.there its (sym q.spent ∙ ly) lives (sym q.worker ∙ o)))
        (λ (o : (f : ℕ) × (get_elem? w.joined f ≡ some y.worker)). a.joined other j o.0 w q.old its q.there (sym q.spent ∙ ly) (o.1 ∙ ap (λ (z : ℕ). some z) q.worker)) o) (p.joined e y.worker h))
        (λ p. some-ne-none y.worker (sym (ap (λ (z : Knows). get_elem? z.joined e) p ∙ h))) (was_or_gone i x ex))
        (λ q. absurd (not_gone y q ly)) (was_or_gone j y ey);
    maker = λ i j x y ex ey mx ly d. ⊎_elim
        (λ (p : Was i x). ⊎_elim (λ (q : Was j y). subst (λ (z : ℕ × ℕ). z.0 < z.1) (λ c. (sym q.worker c, sym p.made c)) (a.maker i j p.old q.old p.there q.there (sym p.maker ∙ mx) (sym q.spent ∙ ly) d)) (λ q. absurd (not_gone y q ly)) (was_or_gone j y ey))
        (λ p. absurd (no_maker x p mx)) (was_or_gone i x ex);
    fresh = λ i j e u x y ex mx ey h. ⊎_elim
        (λ (p : Was i x). subst (λ (z : ℕ). u < z) (sym p.made) (⊎_elim
        (λ (q : Was j y). ⊎_elim (λ (o : (f : ℕ) × (get_elem? q.old.joined f ≡ some u)). a.fresh i j o.0 u p.old q.old p.there (sym p.maker ∙ mx) q.there o.1)
        (λ o. ⊎_elim (λ (o : u ≡ w.worker). subst (λ (z : ℕ). z < p.old.made) (sym o) (a.maker i other p.old w p.there its (sym p.maker ∙ mx) lives p.far))
        (λ (o : (f : ℕ) × (get_elem? w.joined f ≡ some u)). a.fresh i other o.0 u p.old w p.there (sym p.maker ∙ mx) its o.1) o) (q.joined e u h))
        (λ q. absurd (some-ne-none u (sym (ap (λ (z : Knows). get_elem? z.joined e) q ∙ h)))) (was_or_gone j y ey)))
        (λ p. absurd (no_maker x p mx)) (was_or_gone i x ex);
    sole = λ i j x y ex ey mx my. ⊎_elim
        (λ (p : Was i x). ⊎_elim (λ (q : Was j y). a.sole i j p.old q.old p.there q.there (sym p.maker ∙ mx) (sym q.maker ∙ my)) (λ q. absurd (no_maker y q my)) (was_or_gone j y ey))
        (λ p. absurd (no_maker x p mx)) (was_or_gone i x ex);
    spent = λ i x e s. ⊎_elim (λ (p : Was i x). p.locks ∙ a.spent i p.old p.there (sym p.spent ∙ s)) (λ p. ap (λ (z : Knows). z.locks) (sym p)) (was_or_gone i x e);
  }

  pub stop_joins : HasStopped vs → HasStopped after
  stop_joins h = dite (ℕ_discrete h.id other)
      (λ (is : h.id ≡ other). let same : w ≡ h.view = some-injective w h.view (sym its ∙ (ap (get_elem? vs) (sym is) ∙ h.pass)) in
      let c = at_append v.calls w.calls h.place Stop (ap (λ (z : Knows). get_elem? z.calls h.place) same ∙ h.call) in
      record { id = id; view = both; pass = here; place = c.0; call = c.1 })
      (λ (far : h.id ≢ other). dite (ℕ_discrete h.id id)
      (λ (is : h.id ≡ id). let same : v ≡ h.view = some-injective v h.view (sym at ∙ (ap (get_elem? vs) (sym is) ∙ h.pass)) in
      record { id = id; view = both; pass = here; place = h.place; call = at_longer v.calls w.calls h.place Stop (ap (λ (z : Knows). get_elem? z.calls h.place) same ∙ h.call) })
      (λ (near : h.id ≢ id). record { id = h.id; view = h.view; pass = set_else (set vs id both) other h.id gone far ∙ (set_else vs id h.id both near ∙ h.pass); place = h.place; call = h.call }))
    where
      here : get_elem? after id ≡ some both
      here = set_else (set vs id both) other id gone (λ z. ne (sym z)) ∙ set_here vs id both (there vs id v v at).0

module _ (k : HallTerms) where
  pub deals : (id : ℕ) (v : Knows) → v.spent ≡ false → v.maker ≡ true → v.made < v.worker → Splits (KeptHall k) id v (dealt v) (fresh v)
  deals id v live makes room s r at =
      let left : Knows = dealt v in
      let n : ℕ = threads k in
      let old = r.passes id v at in
      let below = old.worker in
      let wide : length v.packages ≡ n = r.placed.sized id v at live in
      let wide_locks : length v.locks ≡ locks k = r.locks_placed.sized id v at live in
      let vs' : List Knows = set s.views id left in
      let one = stays s.words s.words s.homes s.homes s.views id v left at (λ e. e) n r.told.places r.placed r.told.law.all_packages (λ u b. refl) (λ u b. refl) refl refl refl (λ u b e. e) (λ u b e. e) in
      let two = locks_stay n (locks k) r.told.segments s.words s.words s.homes s.homes s.views id v left at (λ i b. refl) (λ i. refl) (λ u q b e. e) (λ u q b e. e) refl refl (λ i e. e) (λ i e. e) r.locks_placed in
      let all = passes_stay k.image.value k.workers r.told.history r.told.history s.words s.words (λ b e. e) (λ u b e. e) (λ e. e) s.views id left r.passes
      (pass_same k.image.value k.workers r.told.history r.told.history s.words s.words (λ b e. e) (λ u b e. e) (λ e. e) v left old (refl, refl, refl, refl) refl refl refl refl) in
      let new : Knows = fresh v in
      record {
        told = r.told;
        words = r.words;
        slots = r.slots;
        clock = r.clock;
        placed = more n (locks k) r.told.places r.told.segments s.words s.homes vs' one two new (clean_free v.image (length v.packages) (length v.locks) v.made false) (length-replicate (length v.packages) None ∙ wide);
        locks_placed = locks_more n (locks k) r.told.places r.told.segments s.words s.homes vs' one two new (clean_free v.image (length v.packages) (length v.locks) v.made false) (length-replicate (length v.locks) None ∙ wide_locks);
        passes = λ j x e. ⊎_elim (λ (o : get_elem? vs' j ≡ some x). all j x o)
            (λ (o : new ≡ x). subst (IsPass k.image.value k.workers r.told.history s.words) o (clean_pass k.image.value v.image k.workers r.told.history s.words (length v.packages) (length v.locks) v.made false (old.of live) (omega arith) wide))
            (at_snoc vs' new x j e);
        stop = λ e. let h = stop_stays s.views id v left at (λ i e. (i, e)) (r.stop e) in record { id = h.id; view = h.view; pass = at_longer vs' (new ∷ []) h.id h.view h.pass; place = h.place; call = h.call };
        apart = apart_deals s.views id v (length v.packages) (length v.locks) at live makes room r.apart;
        listed = listed_deals r.told.history s.views id v (length v.packages) (length v.locks) at makes room r.listed;
      }

  pub joins : (id : ℕ) (v : Knows) (other : ℕ) (w : Knows) → v.spent ≡ false → w.spent ≡ false → IsFree w → Joins (KeptHall k) id v other w (merged v w) gone
  joins id v other w live lives free s r at ne there' =
      let both' : Knows = merged v w in
      let n : ℕ = threads k in
      let vs' : List Knows = set s.views id both' in
      let its : get_elem? s.views other ≡ some w = sym (set_else s.views id other both' ne) ∙ there' in
      let old = r.passes id v at in
      let theirs = r.passes other w its in
      let one = stays s.words s.words s.homes s.homes s.views id v both' at (λ e. e) n r.told.places r.placed r.told.law.all_packages (λ u b. refl) (λ u b. refl) refl refl refl (λ u b e. e) (λ u b e. e) in
      let two = locks_stay n (locks k) r.told.segments s.words s.words s.homes s.homes s.views id v both' at (λ i b. refl) (λ i. refl) (λ u q b e. e) (λ u q b e. e) refl refl (λ i e. e) (λ i e. e) r.locks_placed in
      let h = r.told.history in
      let all = passes_stay k.image.value k.workers h h s.words s.words (λ b e. e) (λ u b e. e) (λ e. e) s.views id both' r.passes
      (pass_kept k.image.value k.workers h h s.words s.words (λ b e. e) (λ u b e. e) (λ e. e) v both' old (refl, refl, refl, refl)
      (λ i u e. ⊎_elim (λ o. inl o) (λ (o : (f : ℕ) × (get_elem? (w.worker ∷ w.joined) f ≡ some u)). inr (joined_below o.0 u theirs o.1)) (either_at v.joined (w.worker ∷ w.joined) i u e))
      (λ i b e. ⊎_elim (λ o. inl o) (λ (o : (f : ℕ) × (get_elem? w.sealed f ≡ some b)). inr (theirs.sealed o.0 b o.1)) (either_at v.sealed w.sealed i b e))
      (λ i c e. ⊎_elim (λ o. inl o) (λ (o : (f : ℕ) × (get_elem? w.calls f ≡ some c)). inr (told_true o.0 c theirs o.1)) (either_at v.calls w.calls i c e))
      (λ t e. inl e)) in
      record {
        told = r.told;
        words = r.words;
        slots = r.slots;
        clock = r.clock;
        placed = less n (locks k) r.told.places r.told.segments s.words s.homes vs' one two w other free there';
        locks_placed = locks_less n (locks k) r.told.places r.told.segments s.words s.homes vs' one two w other free there';
        passes = passes_stay k.image.value k.workers h h s.words s.words (λ b e. e) (λ u b e. e) (λ e. e) vs' other gone all record {
          of = λ live. absurd (apart true live refl);
          worker = r.told.limits.workers.0;
          joined = λ i w e. absurd (some-ne-none w (sym e));
          sealed = λ i b e. absurd (some-ne-none b (sym e));
          done = λ i t b e. absurd (some-ne-none (Look t 2) (sym e));
          stop = λ i e. absurd (some-ne-none Stop (sym e));
          stopped = λ i e. absurd (some-ne-none (Stopped 1) (sym e));
          pinned = λ t e. absurd (some-ne-none true (sym e));
          sized = λ live. absurd (apart true live refl);
        };
        stop = λ e. stop_joins s.views id other v w at its live lives ne r.apart (r.stop e);
        apart = apart_joins s.views id other v w at its live lives ne r.apart;
        listed = listed_joins r.told.history s.views id other v w at its live lives ne r.apart r.listed;
      }
    where
      joined_below : (f u : ℕ) → IsPass k.image.value k.workers r.told.history s.words w → get_elem? (w.worker ∷ w.joined) f ≡ some u → u < k.workers
      joined_below zero u p e = subst (λ (z : ℕ). z < k.workers) (some-injective w.worker u e) p.worker
      joined_below (suc f) u p e = p.joined f u e

      told_true : (f : ℕ) (c : PassCall) → IsPass k.image.value k.workers r.told.history s.words w → get_elem? w.calls f ≡ some c → IsTrueCall (threads k) s.words c
      told_true f (Put t place numbers given turns) p e = tt
      told_true f (Claim t place numbers given turns kind) p e = tt
      told_true f (Commit t b) p e = tt
      told_true f (Take i) p e = tt
      told_true f (Free i) p e = tt
      told_true f (Line i d) p e = tt
      told_true f (Look t found) p e = λ b is. p.done f t b (e ∙ ap (λ (z : ℕ). some (Look t z)) is)
      told_true f Stop p e = p.stop f e
      told_true f (Stopped found) p e = λ is. p.stopped f (e ∙ ap (λ (z : ℕ). some (Stopped z)) is)
