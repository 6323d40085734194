-- What the passes' lists of blocks say of the history stays true.
use Rattle.std.proofs.Common.{◌≡◌, ◌≢◌, ◌⊎◌, ℕ, zero, suc, ◌<◌, ◌≤◌, ◌==◌, true, false, List, [], ◌∷◌, ◌++◌, set, sym, refl, ap, ◌∙◌, subst, ⊎_elim, inl, inr, arith, append-nil, if◌then◌else◌}
use Rattle.tc_hall.proofs.Vocabulary.{AreApart, Block, Knows, clean, dealt, get_elem?, gone, last_by, last_of, merged, of_worker, some, some-ne-none}
use Rattle.std.proofs.lemmas.Bool.Decides.{eqb_tells}
use Rattle.std.proofs.lemmas.List.Elements.{filter-append}
use Rattle.atomic_table.proofs.Lists.{at_set, at_longer, at_snoc}
use Rattle.tc_journal.proofs.Rows.{last_own, other_more, worker_of}
use Rattle.tc_hall.specs.Rule.{AreListed}
use Rattle.tc_hall.proofs.Cases.{apart}

-- ---- lists

pub at_append : {A : Type 0} (xs ys : List A) (i : ℕ) (a : A) → get_elem? ys i ≡ some a → (j : ℕ) × (get_elem? (xs ++ ys) j ≡ some a)
at_append [] ys i a e = (i, e)
at_append (x ∷ xs) ys i a e = let r = at_append xs ys i a e in (suc r.0, r.1)

pub either_at : {A : Type 0} (xs ys : List A) (i : ℕ) (a : A) → get_elem? (xs ++ ys) i ≡ some a → (get_elem? xs i ≡ some a) ⊎ ((j : ℕ) × (get_elem? ys j ≡ some a))
either_at [] ys i a e = inr (i, e)
either_at (x ∷ xs) ys zero a e = inl e
either_at (x ∷ xs) ys (suc i) a e = either_at xs ys i a e

-- no block is the worker's
none_of_worker : (h : List Block) (w : ℕ) → ((i : ℕ) (b : Block) → get_elem? h i ≡ some b → b.worker ≢ w) → of_worker h w ≡ []
none_of_worker [] w none = refl
none_of_worker (b ∷ h) w none =
    (elim (eqb_tells b.worker w) [
      | inl e ↦ absurd (none 0 b refl e.1)
      | inr e ↦ ap (λ v. if v then b ∷ of_worker h w else of_worker h w) e.0
    ])
    ∙ none_of_worker h w (λ i c e. none (suc i) c e)

-- ---- a pass with another view

-- it lists the same blocks of the same workers
pub record IsListedAs (v w : Knows) : Type 0 where
  pub worker : w.worker ≡ v.worker
  pub maker : w.maker ≡ v.maker
  pub made : v.made ≤ w.made
  pub spent : w.spent ≡ v.spent
  pub joined : w.joined ≡ v.joined
  pub sealed : w.sealed ≡ v.sealed

listed_same : (v : Knows) → IsListedAs v v
listed_same v = record { worker = refl; maker = refl; made = omega arith; spent = refl; joined = refl; sealed = refl }

-- a block is of one of these workers
abbrev IsOf : Block → ℕ → List ℕ → Type 0
IsOf b worker joined = (b.worker ≡ worker) ⊎ ((e : ℕ) × (get_elem? joined e ≡ some b.worker))

module _ (h : List Block) (vs : List Knows) (id : ℕ) (v w : Knows) (at : get_elem? vs id ≡ some v) (a : AreListed h vs) where
  old_of : IsListedAs v w → (j : ℕ) (x : Knows) → get_elem? (set vs id w) j ≡ some x → (y : Knows) × (get_elem? vs j ≡ some y) × IsListedAs y x
  old_of same j x e = ⊎_elim (λ (o : (j ≡ id) × (w ≡ x)). (v, ap (get_elem? vs) o.0 ∙ at, subst (IsListedAs v) o.1 same)) (λ (o : (j ≢ id) × (get_elem? vs j ≡ some x)). (x, o.1, listed_same x)) (at_set vs id j w x e)

  pub listed_stays : IsListedAs v w → AreListed h (set vs id w)
  listed_stays same = record {
    newest = λ j x e live. let p = old_of same j x e in
        (λ i. last_of (of_worker h (p.2.worker i))) ∙ (a.newest j p.0 p.1 (sym p.2.spent ∙ live) ∙ (λ i. last_of (of_worker (sym p.2.sealed i) (sym p.2.worker i))));
    owned = λ j i x b e f. let p = old_of same j x e in
        subst (λ (z : ℕ × List ℕ). IsOf b z.0 z.1) (λ c. (sym p.2.worker c, sym p.2.joined c)) (a.owned j i p.0 b p.1 (ap (λ (l : List Block). get_elem? l i) (sym p.2.sealed) ∙ f));
    made = λ j i x b e m f. let p = old_of same j x e in ⊎_elim
        (λ (o : b.worker ≡ p.0.worker). inl (o ∙ sym p.2.worker))
        (λ (o : b.worker < p.0.made). inr (let up = p.2.made in omega arith))
        (a.made j i p.0 b p.1 (sym p.2.maker ∙ m) f);
  }

  -- a block of its worker is sealed
  module _ (b : Block) (is : b.worker ≡ v.worker) (live : v.spent ≡ false) (ranks : AreApart vs) (worker : w.worker ≡ v.worker) (maker : w.maker ≡ v.maker) (made : w.made ≡ v.made) (joined : w.joined ≡ v.joined) (sealed : w.sealed ≡ v.sealed ++ b ∷ []) where
    mine : b.worker ≡ w.worker
    mine = is ∙ sym worker

    newest_own : last_of (of_worker (h ++ b ∷ []) w.worker) ≡ last_by w
    newest_own = last_own worker_of h b w.worker mine ∙ sym (ap (λ (l : List Block). last_of (of_worker l w.worker)) sealed ∙ last_own worker_of v.sealed b w.worker mine)

    owned_own : (i : ℕ) (c : Block) → get_elem? w.sealed i ≡ some c → IsOf c w.worker w.joined
    owned_own i c f = ⊎_elim
        (λ (o : get_elem? v.sealed i ≡ some c). subst (λ (z : ℕ × List ℕ). IsOf c z.0 z.1) (λ d. (sym worker d, sym joined d)) (a.owned id i v c at o))
        (λ (o : b ≡ c). inl (ap (λ (z : Block). z.worker) (sym o) ∙ mine))
        (at_snoc v.sealed b c i (ap (λ (l : List Block). get_elem? l i) (sym sealed) ∙ f))

    made_old : (j i : ℕ) (x : Knows) (c : Block) → get_elem? (set vs id w) j ≡ some x → x.maker ≡ true → get_elem? h i ≡ some c → (c.worker ≡ x.worker) ⊎ (c.worker < x.made)
    made_old j i x c e m f = ⊎_elim
        (λ (o : (j ≡ id) × (w ≡ x)). subst (λ (z : ℕ × ℕ). (c.worker ≡ z.0) ⊎ (c.worker < z.1)) (λ d. ((sym worker ∙ ap (λ (z : Knows). z.worker) o.1) d, (sym made ∙ ap (λ (z : Knows). z.made) o.1) d)) (a.made id i v c at (sym maker ∙ (ap (λ (z : Knows). z.maker) o.1 ∙ m)) f))
        (λ (o : (j ≢ id) × (get_elem? vs j ≡ some x)). a.made j i x c o.1 m f) (at_set vs id j w x e)

    made_new : (j : ℕ) (x : Knows) → get_elem? (set vs id w) j ≡ some x → x.maker ≡ true → (b.worker ≡ x.worker) ⊎ (b.worker < x.made)
    made_new j x e m = ⊎_elim
        (λ (o : (j ≡ id) × (w ≡ x)). inl (mine ∙ ap (λ (z : Knows). z.worker) o.1))
        (λ (o : (j ≢ id) × (get_elem? vs j ≡ some x)). inr (subst (λ (z : ℕ). z < x.made) (sym is) (ranks.maker j id x v o.1 at m live o.0))) (at_set vs id j w x e)

    pub listed_seals : AreListed (h ++ b ∷ []) (set vs id w)
    listed_seals = record {
      newest = λ j x e lives. ⊎_elim
          (λ (o : (j ≡ id) × (w ≡ x)). subst (λ (z : Knows). last_of (of_worker (h ++ b ∷ []) z.worker) ≡ last_by z) o.1 newest_own)
          (λ (o : (j ≢ id) × (get_elem? vs j ≡ some x)). ap last_of (other_more worker_of h b x.worker (λ z. o.0 (ranks.apart j id x v o.1 at lives live (sym z ∙ is)))) ∙ a.newest j x o.1 lives)
          (at_set vs id j w x e);
      owned = λ j i x c e f. ⊎_elim
          (λ (o : (j ≡ id) × (w ≡ x)). subst (λ (z : Knows). IsOf c z.worker z.joined) o.1 (owned_own i c (ap (λ (z : Knows). get_elem? z.sealed i) o.1 ∙ f)))
          (λ (o : (j ≢ id) × (get_elem? vs j ≡ some x)). a.owned j i x c o.1 f)
          (at_set vs id j w x e);
      made = λ j i x c e m f. ⊎_elim
          (λ (o : get_elem? h i ≡ some c). made_old j i x c e m o)
          (λ (o : b ≡ c). subst (λ (z : Block). (z.worker ≡ x.worker) ⊎ (z.worker < x.made)) o (made_new j x e m))
          (at_snoc h b c i f);
    }

-- ---- one pass more

module _ (h : List Block) (vs : List Knows) (id : ℕ) (v : Knows) (n m : ℕ) (at : get_elem? vs id ≡ some v) (makes : v.maker ≡ true) (room : v.made < v.worker) (a : AreListed h vs) where
  abbrev new : Knows
  new = clean v.image n m v.made false

  abbrev left : List Knows
  left = set vs id (dealt v)

  on : AreListed h left
  on = listed_stays h vs id v (dealt v) at a record { worker = refl; maker = refl; made = omega arith; spent = refl; joined = refl; sealed = refl }

  -- its worker has no block yet
  no_block : of_worker h v.made ≡ []
  no_block = none_of_worker h v.made (λ i b e is. ⊎_elim (λ (o : b.worker ≡ v.worker). omega arith) (λ (o : b.worker < v.made). omega arith) (a.made id i v b at makes e))

  pub listed_deals : AreListed h (left ++ new ∷ [])
  listed_deals = record {
    newest = λ j x e live. ⊎_elim (λ (o : get_elem? left j ≡ some x). on.newest j x o live)
        (λ (o : new ≡ x). subst (λ (z : Knows). last_of (of_worker h z.worker) ≡ last_by z) o (ap last_of no_block)) (at_snoc left new x j e);
    owned = λ j i x b e f. ⊎_elim (λ (o : get_elem? left j ≡ some x). on.owned j i x b o f)
        (λ (o : new ≡ x). absurd (some-ne-none b (sym (ap (λ (z : Knows). get_elem? z.sealed i) o ∙ f)))) (at_snoc left new x j e);
    made = λ j i x b e mx f. ⊎_elim (λ (o : get_elem? left j ≡ some x). on.made j i x b o mx f)
        (λ (o : new ≡ x). absurd (apart x.maker (ap (λ (z : Knows). z.maker) (sym o)) mx)) (at_snoc left new x j e);
  }

-- ---- one pass is joined into another

module _ (h : List Block) (vs : List Knows) (id other : ℕ) (v w : Knows) (at : get_elem? vs id ≡ some v) (its : get_elem? vs other ≡ some w) (live : v.spent ≡ false) (lives : w.spent ≡ false) (ne : other ≢ id) (ranks : AreApart vs) (a : AreListed h vs) where
  abbrev both : Knows
  both = merged v w

  -- the other lists no block of this one's worker
  no_other : of_worker w.sealed v.worker ≡ []
  no_other = none_of_worker w.sealed v.worker (λ i b e is. ⊎_elim
      (λ (o : b.worker ≡ w.worker). ne (ranks.apart other id w v its at lives live (sym o ∙ is)))
      (λ (o : (f : ℕ) × (get_elem? w.joined f ≡ some b.worker)). ranks.joined other id o.0 w v its at live (o.1 ∙ ap (λ (z : ℕ). some z) is))
      (a.owned other i w b its e))

  last_both : last_by v ≡ last_by both
  last_both = ap last_of (sym (filter-append (λ (c : Block). c.worker == v.worker) v.sealed w.sealed ∙ (ap (λ (l : List Block). of_worker v.sealed v.worker ++ l) no_other ∙ append-nil (of_worker v.sealed v.worker))))

  in_second : (b : Block) (f : ℕ) → get_elem? (w.worker ∷ w.joined) f ≡ some b.worker → IsOf b v.worker (v.joined ++ w.worker ∷ w.joined)
  in_second b f e = inr (at_append v.joined (w.worker ∷ w.joined) f b.worker e)

  owned_both : (i : ℕ) (b : Block) → get_elem? (v.sealed ++ w.sealed) i ≡ some b → IsOf b v.worker (v.joined ++ w.worker ∷ w.joined)
  owned_both i b e = ⊎_elim
      (λ (o : get_elem? v.sealed i ≡ some b). ⊎_elim (λ (p : b.worker ≡ v.worker). inl p)
      (λ (p : (f : ℕ) × (get_elem? v.joined f ≡ some b.worker)). inr (p.0, at_longer v.joined (w.worker ∷ w.joined) p.0 b.worker p.1)) (a.owned id i v b at o))
      (λ (o : (j : ℕ) × (get_elem? w.sealed j ≡ some b)). ⊎_elim (λ (p : b.worker ≡ w.worker). in_second b 0 (ap (λ (z : ℕ). some z) (sym p)))
      (λ (p : (f : ℕ) × (get_elem? w.joined f ≡ some b.worker)). in_second b (suc p.0) p.1) (a.owned other o.0 w b its o.1))
      (either_at v.sealed w.sealed i b e)

  pub listed_joins : AreListed h (set (set vs id both) other gone)
  listed_joins = record {
    newest = λ j x e l. ⊎_elim
        (λ (o : (j ≡ other) × (gone ≡ x)). absurd (apart x.spent l (ap (λ (z : Knows). z.spent) (sym o.1))))
        (λ (o : (j ≢ other) × (get_elem? (set vs id both) j ≡ some x)). ⊎_elim
        (λ (p : (j ≡ id) × (both ≡ x)). subst (λ (z : Knows). last_of (of_worker h z.worker) ≡ last_by z) p.1 (a.newest id v at live ∙ last_both))
        (λ (p : (j ≢ id) × (get_elem? vs j ≡ some x)). a.newest j x p.1 l) (at_set vs id j both x o.1))
        (at_set (set vs id both) other j gone x e);
    owned = λ j i x b e f. ⊎_elim
        (λ (o : (j ≡ other) × (gone ≡ x)). absurd (some-ne-none b (sym (ap (λ (z : Knows). get_elem? z.sealed i) o.1 ∙ f))))
        (λ (o : (j ≢ other) × (get_elem? (set vs id both) j ≡ some x)). ⊎_elim
        (λ (p : (j ≡ id) × (both ≡ x)). subst (λ (z : Knows). IsOf b z.worker z.joined) p.1 (owned_both i b (ap (λ (z : Knows). get_elem? z.sealed i) p.1 ∙ f)))
        (λ (p : (j ≢ id) × (get_elem? vs j ≡ some x)). a.owned j i x b p.1 f) (at_set vs id j both x o.1))
        (at_set (set vs id both) other j gone x e);
    made = λ j i x b e m f. ⊎_elim
        (λ (o : (j ≡ other) × (gone ≡ x)). absurd (apart x.maker (ap (λ (z : Knows). z.maker) (sym o.1)) m))
        (λ (o : (j ≢ other) × (get_elem? (set vs id both) j ≡ some x)). ⊎_elim
        (λ (p : (j ≡ id) × (both ≡ x)). subst (λ (z : Knows). (b.worker ≡ z.worker) ⊎ (b.worker < z.made)) p.1 (a.made id i v b at (ap (λ (z : Knows). z.maker) p.1 ∙ m) f))
        (λ (p : (j ≢ id) × (get_elem? vs j ≡ some x)). a.made j i x b p.1 m f) (at_set vs id j both x o.1))
        (at_set (set vs id both) other j gone x e);
  }
