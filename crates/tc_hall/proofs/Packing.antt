-- Where the locks are after a step of one pass.
use Rattle.std.proofs.Common.{◌≡◌, ◌≢◌, ◌⊎◌, ℕ, ◌+◌, ◌<◌, false, List, length, set, sym, refl, ap, ◌∙◌, subst, ⊎_elim, arith, Option, Some, None, slice_index}
use Rattle.tc_hall.proofs.Vocabulary.{AreLocksPlaced, Cargo, HasLock, Homes, IsLockOut, Knows, LiesLock, LockView, Package, PackageView, Spot, add_all, get_elem?, home, inside, kept, locked_in, none, out, remove_all, slot_word, some, some-injective, some-ne-none, with_states}
use mathlib.Core.Logic.{dite}
use mathlib.Core.Option as maybe
use native.Mathlib.Decide.{ℕ_discrete}
use Rattle.atomic_table.proofs.Lists.{at_set, set_here, set_else}
use Rattle.tc_law.proofs.Lawful.{with_states-at}
use Rattle.tc_mutex_spec.proofs.ListLaws.{there}
use Rattle.tc_hall.specs.Rule.{IsInside}
use Rattle.tc_hall.proofs.LockLists.{add_all-length, add_all-has, add_all-else, remove_all-length, remove_all-at, remove_all-else, with_states-has, with_states-else}
use Rattle.tc_hall.proofs.Placing.{put, put_here, put_else}
use Rattle.tc_hall.proofs.Cases.{clash, same_some, same_at, same_package, not_taken, out_inside, same_out}

abbrev pub spot_or : ℕ → Spot → Option LockView → Spot
spot_or id s None = s
spot_or id s (Some l) = out id

far : (o : Option ℕ) (a b : ℕ) → o ≡ Some a → o ≡ Some b → a ≢ b → ⊥
far o a b e f ne = ne (same_some o b a f e)

pub out_of : (n : ℕ) (ws : List ℕ) (hs : Homes) (vs : List Knows) (i : ℕ) (l : LockView) (id : ℕ) (s : Spot) → s ≡ out id → LiesLock n ws hs vs i l s → IsLockOut n ws hs vs i l id
out_of n ws hs vs i l id s e lies = subst (LiesLock n ws hs vs i l) e lies

module _ (n m : ℕ) (segments : List LockView) (ws ws' : List ℕ) (hs : Homes) (vs : List Knows) (id : ℕ) (v w : Knows) (q : PackageView)
    (lp : AreLocksPlaced n m segments ws hs vs) (count : length segments ≡ m) (at : get_elem? vs id ≡ some v) (live : v.spent ≡ false) (now : w.locks ≡ add_all v.locks q.context.locks) (spent : w.spent ≡ v.spent)
    (words : (i : ℕ) → slice_index ws' (slot_word (n + i)) ≡ slice_index ws (slot_word (n + i))) where
  in_range : id < length vs
  in_range = (there vs id v v at).0

  has_new : (i : ℕ) (k : LockView) → i < m → locked_in q i ≡ Some k → HasLock w i (kept k)
  has_new i k h e = ap (λ (l : List (Option LockView)). get_elem? l i) now ∙ add_all-has v.locks q.context.locks i k (let b = lp.sized id v at live in omega arith) e

  has_old : (i : ℕ) → locked_in q i ≡ None → get_elem? w.locks i ≡ get_elem? v.locks i
  has_old i e = ap (λ (l : List (Option LockView)). get_elem? l i) now ∙ add_all-else v.locks q.context.locks i e

  -- a lock that stays out with the pass or with another
  still_out : (hs' : Homes) (i : ℕ) (l : LockView) (j : ℕ) → locked_in q i ≡ None → get_elem? hs' (n + i) ≡ get_elem? hs (n + i) → (v.open_slot ≡ Some (n + i) → w.open_slot ≡ Some (n + i)) → (w.open_slot ≡ Some (n + i) → v.open_slot ≡ Some (n + i)) → IsLockOut n ws hs vs i l j → IsLockOut n ws' hs' (set vs id w) i l j
  still_out hs' i l j gone place open_slot back o = dite (ℕ_discrete j id)
      (λ (is : j ≡ id). let same : v ≡ o.view = some-injective v o.view (sym at ∙ (ap (get_elem? vs) (sym is) ∙ o.pass)) in record {
        view = w;
        pass = ap (get_elem? (set vs id w)) is ∙ set_here vs id w in_range;
        has = has_old i gone ∙ (ap (λ (z : Knows). get_elem? z.locks i) same ∙ o.has);
        word = words i ∙ o.word;
        empty = λ free. place ∙ o.empty (λ h. free (open_slot (ap (λ (z : Knows). z.open_slot) same ∙ h)));
        held = λ h. place ∙ o.held (ap (λ (z : Knows). z.open_slot) (sym same) ∙ back h);
      })
      (λ (ne : j ≢ id). record { view = o.view; pass = set_else vs id j w ne ∙ o.pass; has = o.has; word = words i ∙ o.word; empty = λ free. place ∙ o.empty free; held = λ h. place ∙ o.held h })

  sized' : (j : ℕ) (x : Knows) → get_elem? (set vs id w) j ≡ some x → x.spent ≡ false → length x.locks ≡ m
  sized' j x e li = ⊎_elim
      (λ (o : (j ≡ id) × (w ≡ x)). ap (λ (z : Knows). length z.locks) (sym o.1) ∙ (ap (λ (l : List (Option LockView)). length l) now ∙ (add_all-length v.locks q.context.locks ∙ lp.sized id v at live)))
      (λ (o : (j ≢ id) × (get_elem? vs j ≡ some x)). lp.sized j x o.1 li) (at_set vs id j w x e)

  -- the package q comes out of slot t, with its locks
  module _ (t : ℕ) (below : t < n) (slot : get_elem? hs t ≡ some (some (Some (Package q)))) (free : v.open_slot ≡ None) (hand_is : w.open_slot ≡ Some t) where
    hs' : Homes
    hs' = set hs t none

    lies_claimed : (i : ℕ) (l : LockView) → get_elem? segments i ≡ some l → (o : Option LockView) → locked_in q i ≡ o → (s : Spot) → lp.spot i ≡ s → LiesLock n ws hs vs i l s → LiesLock n ws' (set hs t none) (set vs id w) i l (spot_or id s o)
    lies_claimed i l e (Some k) is s spot lies =
        let p = lp.packed t q i k below slot is in
        let o : IsInside n ws hs i l t = subst (LiesLock n ws hs vs i l) (sym spot ∙ p.0) lies in record {
          view = w;
          pass = set_here vs id w in_range;
          has = has_new i k (let b = (there segments i l l e).0 in omega arith) is ∙ ap (λ (z : LockView). some (Some z)) (some-injective (kept k) l (sym p.1 ∙ e));
          word = words i ∙ o.word;
          empty = λ _. set_else hs t (n + i) none (λ z. omega arith) ∙ o.empty;
          held = λ h. absurd (far w.open_slot t (n + i) hand_is h (omega arith));
        }
    lies_claimed i l e None is home spot o = record { segment = o.segment; slot = set_else hs t (n + i) none (λ z. omega arith) ∙ o.slot; same = o.same; word = words i ∙ o.word; rests = o.rests }
    lies_claimed i l e None is (inside u) spot o = dite (ℕ_discrete u t)
        (λ (z : u ≡ t). absurd (clash (locked_in q i) o.segment is (ap (λ (x : PackageView). locked_in x i) (same_package (get_elem? hs t) q o.context slot (ap (get_elem? hs) (sym z) ∙ o.slot)) ∙ o.has)))
        (λ (ne : u ≢ t). record { below = o.below; context = o.context; slot = set_else hs t u none ne ∙ o.slot; segment = o.segment; has = o.has; same = o.same; word = words i ∙ o.word; empty = set_else hs t (n + i) none (λ z. omega arith) ∙ o.empty })
    lies_claimed i l e None is (out j) spot o = still_out (set hs t none) i l j is (set_else hs t (n + i) none (λ z. omega arith)) (λ h. absurd (clash v.open_slot (n + i) free h)) (λ h. absurd (far w.open_slot t (n + i) hand_is h (omega arith))) o

    spot_kept : (i : ℕ) → (o : Option LockView) → locked_in q i ≡ o → lp.spot i ≢ inside t → spot_or id (lp.spot i) o ≡ lp.spot i
    spot_kept i None is ne = refl
    spot_kept i (Some k) is ne = absurd (ne (lp.packed t q i k below slot is).0)

    owned_claimed : (i : ℕ) (l : LockView) → HasLock w i l → (o : Option LockView) → locked_in q i ≡ o → (spot_or id (lp.spot i) o ≡ out id) × (get_elem? segments i ≡ some l)
    owned_claimed i l has None is = lp.owned id v i l at (sym (has_old i is) ∙ has)
    owned_claimed i l has (Some k) is =
        let p = lp.packed t q i k below slot is in
        let new = has_new i k (let b = (there segments i (kept k) (kept k) p.1).0 in omega arith) is in
        (refl, p.1 ∙ ap (λ (z : LockView). some z) (same_at (get_elem? w.locks i) (kept k) l new has))

    pub claims_locks : AreLocksPlaced n m segments ws' (set hs t none) (set vs id w)
    claims_locks = record {
      spot = λ i. spot_or id (lp.spot i) (locked_in q i);
      each = λ i l e. lies_claimed i l e (locked_in q i) refl (lp.spot i) refl (lp.each i l e);
      sized = sized';
      owned = λ j x i l e has. ⊎_elim
          (λ (o : (j ≡ id) × (w ≡ x)). let r = owned_claimed i l (ap (λ (z : Knows). get_elem? z.locks i) o.1 ∙ has) (locked_in q i) refl in (r.0 ∙ ap (λ (z : ℕ). out z) (sym o.0), r.1))
          (λ (o : (j ≢ id) × (get_elem? vs j ≡ some x)). let r = lp.owned j x i l o.1 has in (spot_kept i (locked_in q i) refl (λ z. out_inside j t (lp.spot i) r.0 z) ∙ r.0, r.1))
          (at_set vs id j w x e);
      packed = λ u r i l b e has. ⊎_elim
          (λ (o : (u ≡ t) × (none ≡ some (Some (Package r)))). absurd (some-ne-none (Some (Package r)) (sym o.1)))
          (λ (o : (u ≢ t) × (get_elem? hs u ≡ some (some (Some (Package r))))). let p = lp.packed u r i l b o.1 has in (spot_kept i (locked_in q i) refl (λ z. o.0 (in_in u t (lp.spot i) p.0 z)) ∙ p.0, p.1))
          (at_set hs t u none (some (Some (Package r))) e);
    }
      where
        in_in : (u t : ℕ) (s : Spot) → s ≡ inside u → s ≡ inside t → u ≡ t
        in_in u t s a b = cc (a, b)

  -- a block of the package is sealed, with its entries in the locks
  module _ (p : PackageView) (came : (i : ℕ) (l : LockView) → locked_in q i ≡ Some l → (o : LockView) × (locked_in p i ≡ Some o)) (had : (i : ℕ) (l : LockView) → locked_in p i ≡ Some l → HasLock v i (kept l)) (open_slot : w.open_slot ≡ v.open_slot) where
    -- a lock of the package is out with the pass
    mine : (i : ℕ) (k : LockView) → locked_in q i ≡ Some k → (o : LockView) × (lp.spot i ≡ out id) × (get_elem? segments i ≡ some (kept o))
    mine i k is = let was = came i k is in let r = lp.owned id v i (kept was.0) at (had i was.0 was.1) in (was.0, r.0, r.1)

    lies_stays : (i : ℕ) (l : LockView) → locked_in q i ≡ None → (s : Spot) → LiesLock n ws hs vs i l s → LiesLock n ws' hs (set vs id w) i l s
    lies_stays i l is home o = record { segment = o.segment; slot = o.slot; same = o.same; word = words i ∙ o.word; rests = o.rests }
    lies_stays i l is (inside u) o = record { below = o.below; context = o.context; slot = o.slot; segment = o.segment; has = o.has; same = o.same; word = words i ∙ o.word; empty = o.empty }
    lies_stays i l is (out j) o = still_out hs i l j is refl (λ h. open_slot ∙ h) (λ h. sym open_slot ∙ h) o

    lies_sealed : (i : ℕ) (l : LockView) → get_elem? (with_states q.context.locks segments) i ≡ some l → LiesLock n ws' hs (set vs id w) i l (lp.spot i)
    lies_sealed i l e = ⊎_elim
        (λ (z : (k : LockView) × (locked_in q i ≡ Some k) × (kept k ≡ l)).
        let r = mine i z.0 z.1 in
        let o : IsLockOut n ws hs vs i (kept r.0) id = out_of n ws hs vs i (kept r.0) id (lp.spot i) r.1 (lp.each i (kept r.0) r.2) in
        let same : v ≡ o.view = some-injective v o.view (sym at ∙ o.pass) in
        let new : IsLockOut n ws' hs (set vs id w) i l id = record {
          view = w;
          pass = set_here vs id w in_range;
          has = has_new i z.0 (let b = (there segments i (kept r.0) (kept r.0) r.2).0 in omega arith) z.1 ∙ ap (λ (x : LockView). some (Some x)) z.2;
          word = words i ∙ o.word;
          empty = λ free. o.empty (λ h. free (open_slot ∙ (ap (λ (x : Knows). x.open_slot) same ∙ h)));
          held = λ h. o.held (ap (λ (x : Knows). x.open_slot) (sym same) ∙ (sym open_slot ∙ h));
        } in
        subst (LiesLock n ws' hs (set vs id w) i l) (sym r.1) new)
        (λ (z : (locked_in q i ≡ None) × (get_elem? segments i ≡ some l)). lies_stays i l z.0 (lp.spot i) (lp.each i l z.1))
        (with_states-at q.context.locks segments i l e)

    unmoved : (i : ℕ) (o : Option LockView) → locked_in q i ≡ o → lp.spot i ≢ out id → locked_in q i ≡ None
    unmoved i None is ne = is
    unmoved i (Some k) is ne = absurd (ne (mine i k is).1)

    owned_sealed : (i : ℕ) (l : LockView) → HasLock w i l → (o : Option LockView) → locked_in q i ≡ o → (lp.spot i ≡ out id) × (get_elem? (with_states q.context.locks segments) i ≡ some l)
    owned_sealed i l has None is = let r = lp.owned id v i l at (sym (has_old i is) ∙ has) in (r.0, with_states-else q.context.locks segments i is ∙ r.1)
    owned_sealed i l has (Some k) is =
        let r = mine i k is in
        let b = (there segments i (kept r.0) (kept r.0) r.2).0 in
        let new = has_new i k (omega arith) is in
        (r.1, with_states-has q.context.locks segments i k b is ∙ ap (λ (z : LockView). some z) (same_at (get_elem? w.locks i) (kept k) l new has))

    pub seals_locks : AreLocksPlaced n m (with_states q.context.locks segments) ws' hs (set vs id w)
    seals_locks = record {
      spot = lp.spot;
      each = λ i l e. lies_sealed i l e;
      sized = sized';
      owned = λ j x i l e has. ⊎_elim
          (λ (o : (j ≡ id) × (w ≡ x)). let r = owned_sealed i l (ap (λ (z : Knows). get_elem? z.locks i) o.1 ∙ has) (locked_in q i) refl in (r.0 ∙ ap (λ (z : ℕ). out z) (sym o.0), r.1))
          (λ (o : (j ≢ id) × (get_elem? vs j ≡ some x)). let r = lp.owned j x i l o.1 has in (r.0, with_states-else q.context.locks segments i (unmoved i (locked_in q i) refl (λ z. o.0 (same_out (lp.spot i) j id r.0 z))) ∙ r.1))
          (at_set vs id j w x e);
      packed = λ u r i l b e has. let p = lp.packed u r i l b e has in (p.0, with_states-else q.context.locks segments i (unmoved i (locked_in q i) refl (λ z. out_inside id u (lp.spot i) z p.0)) ∙ p.1);
    }

abbrev spot_in : ℕ → Spot → Option LockView → Spot
spot_in t s None = s
spot_in t s (Some l) = inside t

-- the package q goes home to the slot t, which the pass has in hand, with its locks
module _ (n m : ℕ) (segments : List LockView) (ws ws' : List ℕ) (hs : Homes) (vs : List Knows) (id : ℕ) (v w : Knows) (q : PackageView) (t : ℕ)
    (lp : AreLocksPlaced n m segments ws hs vs) (count : length segments ≡ m) (at : get_elem? vs id ≡ some v) (live : v.spent ≡ false) (now : w.locks ≡ remove_all v.locks q.context.locks) (spent : w.spent ≡ v.spent)
    (words : (i : ℕ) → slice_index ws' (slot_word (n + i)) ≡ slice_index ws (slot_word (n + i))) (below : t < n) (held : get_elem? hs t ≡ some none) (hand_was : v.open_slot ≡ Some t) (hand_is : w.open_slot ≡ None)
    (had : (i : ℕ) (l : LockView) → locked_in q i ≡ Some l → HasLock v i (kept l)) where
  at_home : get_elem? (set hs t (some (Some (Package q)))) t ≡ some (some (Some (Package q)))
  at_home = set_here hs t (some (Some (Package q))) (there hs t none none held).0

  far_home : (u : ℕ) → u ≢ t → get_elem? (set hs t (some (Some (Package q)))) u ≡ get_elem? hs u
  far_home u ne = set_else hs t u (some (Some (Package q))) ne

  left_old : (i : ℕ) → locked_in q i ≡ None → get_elem? w.locks i ≡ get_elem? v.locks i
  left_old i e = ap (λ (l : List (Option LockView)). get_elem? l i) now ∙ remove_all-else v.locks q.context.locks i e

  lies_put : (i : ℕ) (l : LockView) → get_elem? segments i ≡ some l → (o : Option LockView) → locked_in q i ≡ o → (s : Spot) → lp.spot i ≡ s → LiesLock n ws hs vs i l s → LiesLock n ws' (set hs t (some (Some (Package q)))) (set vs id w) i l (spot_in t s o)
  lies_put i l e (Some k) is s spot lies =
      let r = lp.owned id v i (kept k) at (had i k is) in
      let o : IsLockOut n ws hs vs i l id = out_of n ws hs vs i l id s (sym spot ∙ r.0) lies in
      let same : v ≡ o.view = some-injective v o.view (sym at ∙ o.pass) in record {
        below = below;
        context = q;
        slot = at_home;
        segment = k;
        has = is;
        same = some-injective (kept k) l (sym r.1 ∙ e);
        word = words i ∙ o.word;
        empty = far_home (n + i) (λ z. omega arith) ∙ o.empty (λ h. far v.open_slot t (n + i) hand_was (ap (λ (x : Knows). x.open_slot) same ∙ h) (omega arith));
      }
  lies_put i l e None is home spot o = record { segment = o.segment; slot = far_home (n + i) (λ z. omega arith) ∙ o.slot; same = o.same; word = words i ∙ o.word; rests = o.rests }
  lies_put i l e None is (inside u) spot o = record {
    below = o.below;
    context = o.context;
    slot = far_home u (λ z. not_taken (get_elem? hs t) (Package o.context) held (ap (get_elem? hs) (sym z) ∙ o.slot)) ∙ o.slot;
    segment = o.segment;
    has = o.has;
    same = o.same;
    word = words i ∙ o.word;
    empty = far_home (n + i) (λ z. omega arith) ∙ o.empty;
  }
  lies_put i l e None is (out j) spot o = dite (ℕ_discrete j id)
      (λ (z : j ≡ id). let same : v ≡ o.view = some-injective v o.view (sym at ∙ (ap (get_elem? vs) (sym z) ∙ o.pass)) in record {
        view = w;
        pass = ap (get_elem? (set vs id w)) z ∙ set_here vs id w (there vs id v v at).0;
        has = left_old i is ∙ (ap (λ (x : Knows). get_elem? x.locks i) same ∙ o.has);
        word = words i ∙ o.word;
        empty = λ _. far_home (n + i) (λ z. omega arith) ∙ o.empty (λ h. far v.open_slot t (n + i) hand_was (ap (λ (x : Knows). x.open_slot) same ∙ h) (omega arith));
        held = λ h. absurd (clash w.open_slot (n + i) hand_is h);
      })
      (λ (ne : j ≢ id). record { view = o.view; pass = set_else vs id j w ne ∙ o.pass; has = o.has; word = words i ∙ o.word; empty = λ h. far_home (n + i) (λ z. omega arith) ∙ o.empty h; held = λ h. far_home (n + i) (λ z. omega arith) ∙ o.held h })

  spot_same : (i : ℕ) (o : Option LockView) → locked_in q i ≡ o → lp.spot i ≢ out id → spot_in t (lp.spot i) o ≡ lp.spot i
  spot_same i None is ne = refl
  spot_same i (Some k) is ne = absurd (ne (lp.owned id v i (kept k) at (had i k is)).0)

  packed_put : (i : ℕ) (l : LockView) → locked_in q i ≡ Some l → (o : Option LockView) → locked_in q i ≡ o → (spot_in t (lp.spot i) o ≡ inside t) × (get_elem? segments i ≡ some (kept l))
  packed_put i l e None is = absurd (clash (locked_in q i) l is e)
  packed_put i l e (Some k) is = (refl, (lp.owned id v i (kept l) at (had i l e)).1)

  pub puts_locks : AreLocksPlaced n m segments ws' (set hs t (some (Some (Package q)))) (set vs id w)
  puts_locks = record {
    spot = λ i. spot_in t (lp.spot i) (locked_in q i);
    each = λ i l e. lies_put i l e (locked_in q i) refl (lp.spot i) refl (lp.each i l e);
    sized = λ j x e li. ⊎_elim
        (λ (o : (j ≡ id) × (w ≡ x)). ap (λ (z : Knows). length z.locks) (sym o.1) ∙ (ap (λ (l : List (Option LockView)). length l) now ∙ (remove_all-length v.locks q.context.locks ∙ lp.sized id v at live)))
        (λ (o : (j ≢ id) × (get_elem? vs j ≡ some x)). lp.sized j x o.1 li) (at_set vs id j w x e);
    owned = λ j x i l e has. ⊎_elim
        (λ (o : (j ≡ id) × (w ≡ x)). let kept' = remove_all-at v.locks q.context.locks i l (ap (λ (z : List (Option LockView)). get_elem? z i) (sym now ∙ ap (λ (z : Knows). z.locks) o.1) ∙ has) in
        let r = lp.owned id v i l at kept'.1 in (ap (spot_in t (lp.spot i)) kept'.0 ∙ (r.0 ∙ ap (λ (z : ℕ). out z) (sym o.0)), r.1))
        (λ (o : (j ≢ id) × (get_elem? vs j ≡ some x)). let r = lp.owned j x i l o.1 has in (spot_same i (locked_in q i) refl (λ z. o.0 (same_out (lp.spot i) j id r.0 z)) ∙ r.0, r.1))
        (at_set vs id j w x e);
    packed = λ u r i l b e has. ⊎_elim
        (λ (o : (u ≡ t) × (some (Some (Package q)) ≡ some (Some (Package r)))). let same : q ≡ r = same_package (some (some (Some (Package q)))) q r refl (ap (λ (z : maybe.Option (Option Cargo)). some z) o.1) in
        let p = packed_put i l (ap (λ (z : PackageView). locked_in z i) same ∙ has) (locked_in q i) refl in (p.0 ∙ ap (λ (z : ℕ). inside z) (sym o.0), p.1))
        (λ (o : (u ≢ t) × (get_elem? hs u ≡ some (some (Some (Package r))))). let p = lp.packed u r i l b o.1 has in (spot_same i (locked_in q i) refl (λ z. out_inside id u (lp.spot i) z p.0) ∙ p.0, p.1))
        (at_set hs t u (some (Some (Package q))) (some (Some (Package r))) e);
  }

-- the view w is v but for lock i, and for what says nothing of locks
pub record IsElseLock (n i : ℕ) (v w : Knows) : Type 0 where
  pub spent : w.spent ≡ v.spent
  pub long : length w.locks ≡ length v.locks
  pub out : (j : ℕ) → j ≢ i → get_elem? w.locks j ≡ get_elem? v.locks j
  pub open_slot : (j : ℕ) → j ≢ i → v.open_slot ≡ Some (n + j) → w.open_slot ≡ Some (n + j)
  pub hand_back : (j : ℕ) → j ≢ i → w.open_slot ≡ Some (n + j) → v.open_slot ≡ Some (n + j)

-- one lock goes from its slot to the pass, or back, or stays out with it while the pass takes or gives its slot
module _ (n m : ℕ) (segments : List LockView) (ws ws' : List ℕ) (hs hs' : Homes) (vs : List Knows) (id : ℕ) (v w : Knows) (at : get_elem? vs id ≡ some v) where
  other_lock : (i j : ℕ) (l : LockView) → IsElseLock n i v w → j ≢ i → slice_index ws' (slot_word (n + j)) ≡ slice_index ws (slot_word (n + j)) → ((u : ℕ) → u ≢ n + i → get_elem? hs' u ≡ get_elem? hs u)
      → (s : Spot) → LiesLock n ws hs vs j l s → LiesLock n ws' hs' (set vs id w) j l s
  other_lock i j l e ne word homes home o = record { segment = o.segment; slot = homes (n + j) (λ z. ne (omega arith)) ∙ o.slot; same = o.same; word = word ∙ o.word; rests = o.rests }
  other_lock i j l e ne word homes (inside t) o = record {
    below = o.below;
    context = o.context;
    slot = homes t (λ z. let b = o.below in omega arith) ∙ o.slot;
    segment = o.segment;
    has = o.has;
    same = o.same;
    word = word ∙ o.word;
    empty = homes (n + j) (λ z. ne (omega arith)) ∙ o.empty;
  }
  other_lock i j l e ne word homes (out k) o = dite (ℕ_discrete k id)
      (λ (is : k ≡ id). let same : v ≡ o.view = some-injective v o.view (sym at ∙ (ap (get_elem? vs) (sym is) ∙ o.pass)) in record {
        view = w;
        pass = ap (get_elem? (set vs id w)) is ∙ set_here vs id w (there vs id v v at).0;
        has = e.out j ne ∙ (ap (λ (z : Knows). get_elem? z.locks j) same ∙ o.has);
        word = word ∙ o.word;
        empty = λ free. homes (n + j) (λ z. ne (omega arith)) ∙ o.empty (λ h. free (e.open_slot j ne (ap (λ (z : Knows). z.open_slot) same ∙ h)));
        held = λ h. homes (n + j) (λ z. ne (omega arith)) ∙ o.held (ap (λ (z : Knows). z.open_slot) (sym same) ∙ e.hand_back j ne h);
      })
      (λ (isn't : k ≢ id). record {
        view = o.view;
        pass = set_else vs id k w isn't ∙ o.pass;
        has = o.has;
        word = word ∙ o.word;
        empty = λ free. homes (n + j) (λ z. ne (omega arith)) ∙ o.empty free;
        held = λ h. homes (n + j) (λ z. ne (omega arith)) ∙ o.held h;
      })

  pub lock_moves : (i : ℕ) (to : Spot) (lp : AreLocksPlaced n m segments ws hs vs) → (lp.spot i ≡ home) ⊎ (lp.spot i ≡ out id)
      → ((j : ℕ) → j ≢ i → slice_index ws' (slot_word (n + j)) ≡ slice_index ws (slot_word (n + j)))
      → ((u : ℕ) → u ≢ n + i → get_elem? hs' u ≡ get_elem? hs u)
      → IsElseLock n i v w
      → ((l : LockView) → get_elem? segments i ≡ some l → LiesLock n ws' hs' (set vs id w) i l to)
      → ((l : LockView) → HasLock w i l → (to ≡ out id) × (get_elem? segments i ≡ some l))
      → AreLocksPlaced n m segments ws' hs' (set vs id w)
  lock_moves i to lp mine words homes e now own = record {
    spot = put lp.spot i to;
    each = λ j l is. dite (ℕ_discrete j i)
        (λ (same : j ≡ i). subst (λ (z : ℕ × Spot). LiesLock n ws' hs' (set vs id w) z.0 l z.1) (λ k. (sym same k, (sym (put_here lp.spot i to) ∙ ap (put lp.spot i to) (sym same)) k)) (now l (ap (get_elem? segments) (sym same) ∙ is)))
        (λ (ne : j ≢ i). subst (LiesLock n ws' hs' (set vs id w) j l) (sym (put_else lp.spot i to j ne)) (other_lock i j l e ne (words j ne) homes (lp.spot j) (lp.each j l is)));
    sized = λ k x is live. ⊎_elim (λ (o : (k ≡ id) × (w ≡ x)). ap (λ (z : Knows). length z.locks) (sym o.1) ∙ (e.long ∙ lp.sized id v at (sym e.spent ∙ (ap (λ (z : Knows). z.spent) o.1 ∙ live)))) (λ (o : (k ≢ id) × (get_elem? vs k ≡ some x)). lp.sized k x o.1 live) (at_set vs id k w x is);
    owned = λ k x j l is has. ⊎_elim
        (λ (o : (k ≡ id) × (w ≡ x)). let has' : HasLock w j l = ap (λ (z : Knows). get_elem? z.locks j) o.1 ∙ has in dite (ℕ_discrete j i)
        (λ (same : j ≡ i). let h = own l (ap (get_elem? w.locks) (sym same) ∙ has') in (ap (put lp.spot i to) same ∙ (put_here lp.spot i to ∙ (h.0 ∙ ap (λ (z : ℕ). out z) (sym o.0))), ap (get_elem? segments) same ∙ h.1))
        (λ (ne : j ≢ i). let h = lp.owned id v j l at (sym (e.out j ne) ∙ has') in (put_else lp.spot i to j ne ∙ (h.0 ∙ ap (λ (z : ℕ). out z) (sym o.0)), h.1)))
        (λ (o : (k ≢ id) × (get_elem? vs k ≡ some x)). let h = lp.owned k x j l o.1 has in dite (ℕ_discrete j i)
        (λ (same : j ≡ i). absurd (only (lp.spot i) k (ap lp.spot (sym same) ∙ h.0) o.0 mine))
        (λ (ne : j ≢ i). (put_else lp.spot i to j ne ∙ h.0, h.1)))
        (at_set vs id k w x is);
    packed = λ t q j l below is has. let h = lp.packed t q j l below (sym (homes t (λ z. omega arith)) ∙ is) has in dite (ℕ_discrete j i)
        (λ (same : j ≡ i). absurd (never (lp.spot i) t (ap lp.spot (sym same) ∙ h.0) mine))
        (λ (ne : j ≢ i). (put_else lp.spot i to j ne ∙ h.0, h.1));
  }
    where
      only : (s : Spot) (k : ℕ) → s ≡ out k → k ≢ id → (s ≡ home) ⊎ (s ≡ out id) → ⊥
      only s k a ne o = ⊎_elim (λ (z : s ≡ home). cc (a, z)) (λ (z : s ≡ out id). ne (let r : k ≡ id = cc (a, z) in r)) o

      never : (s : Spot) (t : ℕ) → s ≡ inside t → (s ≡ home) ⊎ (s ≡ out id) → ⊥
      never s t a o = ⊎_elim (λ (z : s ≡ home). cc (a, z)) (λ (z : s ≡ out id). cc (a, z)) o

-- no lock moves, and no package with locks in it
module _ (n m : ℕ) (segments : List LockView) (ws ws' : List ℕ) (hs hs' : Homes) (vs : List Knows) (id : ℕ) (v w : Knows) (at : get_elem? vs id ≡ some v)
    (words : (i : ℕ) → i < length segments → slice_index ws' (slot_word (n + i)) ≡ slice_index ws (slot_word (n + i))) (homes : (i : ℕ) → get_elem? hs' (n + i) ≡ get_elem? hs (n + i))
    (full : (t : ℕ) (q : PackageView) → t < n → get_elem? hs t ≡ some (some (Some (Package q))) → get_elem? hs' t ≡ some (some (Some (Package q))))
    (full_back : (t : ℕ) (q : PackageView) → t < n → get_elem? hs' t ≡ some (some (Some (Package q))) → get_elem? hs t ≡ some (some (Some (Package q))))
    (now : w.locks ≡ v.locks) (spent : w.spent ≡ v.spent) (open_slot : (i : ℕ) → v.open_slot ≡ Some (n + i) → w.open_slot ≡ Some (n + i)) (back : (i : ℕ) → w.open_slot ≡ Some (n + i) → v.open_slot ≡ Some (n + i)) where
  lies_still : (i : ℕ) (l : LockView) → i < length segments → (s : Spot) → LiesLock n ws hs vs i l s → LiesLock n ws' hs' (set vs id w) i l s
  lies_still i l b home o = record { segment = o.segment; slot = homes i ∙ o.slot; same = o.same; word = words i b ∙ o.word; rests = o.rests }
  lies_still i l b (inside t) o = record { below = o.below; context = o.context; slot = full t o.context o.below o.slot; segment = o.segment; has = o.has; same = o.same; word = words i b ∙ o.word; empty = homes i ∙ o.empty }
  lies_still i l b (out j) o = dite (ℕ_discrete j id)
      (λ (is : j ≡ id). let same : v ≡ o.view = some-injective v o.view (sym at ∙ (ap (get_elem? vs) (sym is) ∙ o.pass)) in record {
        view = w;
        pass = ap (get_elem? (set vs id w)) is ∙ set_here vs id w (there vs id v v at).0;
        has = ap (λ (l : List (Option LockView)). get_elem? l i) now ∙ (ap (λ (z : Knows). get_elem? z.locks i) same ∙ o.has);
        word = words i b ∙ o.word;
        empty = λ free. homes i ∙ o.empty (λ h. free (open_slot i (ap (λ (z : Knows). z.open_slot) same ∙ h)));
        held = λ h. homes i ∙ o.held (ap (λ (z : Knows). z.open_slot) (sym same) ∙ back i h);
      })
      (λ (ne : j ≢ id). record { view = o.view; pass = set_else vs id j w ne ∙ o.pass; has = o.has; word = words i b ∙ o.word; empty = λ free. homes i ∙ o.empty free; held = λ h. homes i ∙ o.held h })

  pub locks_stay : AreLocksPlaced n m segments ws hs vs → AreLocksPlaced n m segments ws' hs' (set vs id w)
  locks_stay lp = record {
    spot = lp.spot;
    each = λ i l e. lies_still i l (there segments i l l e).0 (lp.spot i) (lp.each i l e);
    sized = λ j x e live. ⊎_elim
        (λ (o : (j ≡ id) × (w ≡ x)). ap (λ (z : Knows). length z.locks) (sym o.1) ∙ (ap (λ (l : List (Option LockView)). length l) now ∙ lp.sized id v at (sym spent ∙ (ap (λ (z : Knows). z.spent) o.1 ∙ live))))
        (λ (o : (j ≢ id) × (get_elem? vs j ≡ some x)). lp.sized j x o.1 live) (at_set vs id j w x e);
    owned = λ j x i l e has. ⊎_elim
        (λ (o : (j ≡ id) × (w ≡ x)). let r = lp.owned id v i l at (ap (λ (l : List (Option LockView)). get_elem? l i) (sym now ∙ ap (λ (z : Knows). z.locks) o.1) ∙ has) in (r.0 ∙ ap (λ (z : ℕ). out z) (sym o.0), r.1))
        (λ (o : (j ≢ id) × (get_elem? vs j ≡ some x)). lp.owned j x i l o.1 has) (at_set vs id j w x e);
    packed = λ t q i l b e has. lp.packed t q i l b (full_back t q b e) has;
  }
