-- The lists of each live pass are its part of the order.
use Rattle.std.proofs.Common.{◌≡◌, ◌≢◌, ℕ, zero, suc, ◌≤◌, Bool, false, List, [], ◌∷◌, ◌++◌, length, set, sym, refl, ap, ◌∙◌, subst, ⊎_elim, arith, length-set, length-append, if◌then◌else◌, eq-eqb, ne_eqb}
use Rattle.tc_hall.proofs.Vocabulary.{Take, Free, Line, line, Hall, IsLegal, IsOpening, Knows, Look, Made, MayDo, Operation, Stop, Stopped, HallTerms, after_operation, claim, claim_call, commit, dealt, free, fresh, get_elem?, gone, hall_after, join, lay, look, merged, miss, put, put_call, reach, sealed_block, some, some-injective, some-ne-none, split, starting, stop, stopped, take}
use Rattle.tc_hall.specs.declared.board.PassCall.TheVariants.{Commit}
use Rattle.atomic_table.proofs.Lists.{at_set}
use Rattle.tc_mutex_spec.proofs.ListLaws.{there}
use Rattle.tc_hall.specs.Order.{Notes, no_notes, noted, notes_of, HasNoted, HasOwnNotes}
use Rattle.tc_hall.proofs.Cases.{apart}
use Rattle.tc_lemmas.proofs.Lists.{at_end}

-- the notes of the pass that made the operation, and of another
own_notes : (m : Made) (before : List Made) (id : ℕ) → m.pass ≡ id → notes_of (m ∷ before) id ≡ noted (notes_of before) m.pass m.knew m.operation
own_notes m before id e = ap (λ (z : Bool). if z then noted (notes_of before) m.pass m.knew m.operation else notes_of before id) (eq-eqb m.pass id e)

other_notes : (m : Made) (before : List Made) (id : ℕ) → m.pass ≢ id → notes_of (m ∷ before) id ≡ notes_of before id
other_notes m before id ne = ap (λ (z : Bool). if z then noted (notes_of before) m.pass m.knew m.operation else notes_of before id) (ne_eqb m.pass id ne)

as_many : (vs : List Knows) (id : ℕ) (w : Knows) → length vs ≤ length (set vs id w)
as_many vs id w = let l = length-set vs id w in omega arith

-- no operation takes a view away
views_grow : (k : HallTerms) (s : Hall) (id : ℕ) (v : Knows) (o : Operation) → length s.views ≤ length (after_operation k s id v o).views
views_grow k s id v split = more s.views id (dealt v) (fresh v)
  where
    more : (vs : List Knows) (id : ℕ) (w x : Knows) → length vs ≤ length (set vs id w ++ x ∷ [])
    more vs id w x = let l = length-set vs id w in let m = length-append (set vs id w) (x ∷ []) in omega arith
views_grow k s id v (join other w) = twice s.views id other (merged v w) gone
  where
    twice : (vs : List Knows) (id other : ℕ) (w x : Knows) → length vs ≤ length (set (set vs id w) other x)
    twice vs id other w x = let l = length-set vs id w in let m = length-set (set vs id w) other x in omega arith
views_grow k s id v (claim t word q) = as_many s.views id _
views_grow k s id v (take i l) = as_many s.views id _
views_grow k s id v (miss word wanted found) = as_many s.views id _
views_grow k s id v (commit stamp b q) = as_many s.views id _
views_grow k s id v (put q place) = as_many s.views id _
views_grow k s id v (free l) = as_many s.views id _
views_grow k s id v (look t found) = as_many s.views id _
views_grow k s id v (stopped found) = as_many s.views id _
views_grow k s id v stop = as_many s.views id _
views_grow k s id v (line i c) = as_many s.views id _
views_grow k s id v (reach slot) = as_many s.views id _
views_grow k s id v (lay slot) = as_many s.views id _

-- a pass that is not made yet has no notes
none_yet : (k : HallTerms) (first : Hall) (order : List Made) → IsLegal k first order → (id : ℕ) → length (hall_after k first order).views ≤ id → notes_of order id ≡ no_notes
none_yet k first [] legal id far = refl
none_yet k first (m ∷ before) legal id far =
    let h : Hall = hall_after k first before in
    let grown = views_grow k h m.pass m.knew m.operation in
    let below = (there h.views m.pass m.knew m.knew legal.0.pass).0 in
    other_notes m before id (λ e. absurd (omega arith)) ∙ none_yet k first before legal.1 id (omega arith)

module _ (k : HallTerms) (s : Hall) (before : List Made) (id : ℕ) (v : Knows) (at : get_elem? s.views id ≡ some v) (live : v.spent ≡ false)
    (all : (j : ℕ) (x : Knows) → get_elem? s.views j ≡ some x → x.spent ≡ false → HasNoted x (notes_of before j)) (none_more : notes_of before (length s.views) ≡ no_notes) where
  abbrev made : Operation → Made
  made o = record { pass = id; knew = v; operation = o }

  mine : HasNoted v (notes_of before id)
  mine = all id v at live

  abbrev Goal : Operation → Type 0
  Goal o = (j : ℕ) (x : Knows) → get_elem? (after_operation k s id v o).views j ≡ some x → x.spent ≡ false → HasNoted x (notes_of (made o ∷ before) j)

  -- where the operation replaces the pass's view alone
  replaced : (o : Operation) (w : Knows) → HasNoted w (noted (notes_of before) id v o) → (j : ℕ) (x : Knows) → get_elem? (set s.views id w) j ≡ some x → x.spent ≡ false → HasNoted x (notes_of (made o ∷ before) j)
  replaced o w has j x e l = ⊎_elim
      (λ (z : (j ≡ id) × (w ≡ x)). subst (λ (y : Knows). HasNoted y (notes_of (made o ∷ before) j)) z.1 (subst (HasNoted w) (sym (own_notes (made o) before j (sym z.0))) has))
      (λ (z : (j ≢ id) × (get_elem? s.views j ≡ some x)). subst (HasNoted x) (sym (other_notes (made o) before j (λ e. z.0 (sym e)))) (all j x z.1 l))
      (at_set s.views id j w x e)

  -- another pass is made, which has noted nothing
  made_another : Goal split
  made_another j x e l = ⊎_elim
      (λ (z : get_elem? (set s.views id (dealt v)) j ≡ some x). replaced split (dealt v) record { calls = mine.calls; sealed = mine.sealed; missed = mine.missed; claimed = mine.claimed; taken = mine.taken } j x z l)
      (λ (z : (j ≡ length (set s.views id (dealt v))) × (fresh v ≡ x)). new_has j x (z.0 ∙ length-set s.views id (dealt v)) z.1)
      (at_end (set s.views id (dealt v)) (fresh v) x j e)
    where
      new_has : (j : ℕ) (x : Knows) → j ≡ length s.views → fresh v ≡ x → HasNoted x (notes_of (made split ∷ before) j)
      new_has j x here is =
          let below = (there s.views id v v at).0 in
          let none' : notes_of (made split ∷ before) j ≡ no_notes = other_notes (made split) before j (λ e. absurd (omega arith)) ∙ (ap (notes_of before) here ∙ none_more) in
          subst (λ (z : Knows × Notes). HasNoted z.0 z.1) (λ i. (is i, sym none' i)) record { calls = refl; sealed = refl; missed = refl; claimed = refl; taken = refl }

  -- another pass ends in this one
  joined_in : (other : ℕ) (w : Knows) → get_elem? s.views other ≡ some w → w.spent ≡ false → Goal (join other w)
  joined_in other w there' lives j x e l = ⊎_elim
      (λ (z : (j ≡ other) × (gone ≡ x)). absurd (apart x.spent l (ap (λ (y : Knows). y.spent) (sym z.1))))
      (λ (z : (j ≢ other) × (get_elem? (set s.views id (merged v w)) j ≡ some x)). replaced (join other w) (merged v w) (let theirs = all other w there' lives in record {
        calls = λ i. mine.calls i ++ theirs.calls i;
        sealed = λ i. mine.sealed i ++ theirs.sealed i;
        missed = λ i. mine.missed i ++ theirs.missed i;
        claimed = λ i. mine.claimed i ++ theirs.claimed i;
        taken = λ i. mine.taken i ++ theirs.taken i;
      }) j x z.1 l)
      (at_set (set s.views id (merged v w)) other j gone x e)

  part_after : (o : Operation) → MayDo k s id v o → Goal o
  part_after (claim t word q) may = replaced (claim t word q) _ record { calls = ap (λ z. z ++ claim_call v q word ∷ []) mine.calls; sealed = mine.sealed; missed = mine.missed; claimed = ap (λ z. z ++ q ∷ []) mine.claimed; taken = mine.taken }
  part_after (take i l) may = replaced (take i l) _ record { calls = ap (λ z. z ++ Take l.number ∷ []) mine.calls; sealed = mine.sealed; missed = mine.missed; claimed = mine.claimed; taken = ap (λ z. z ++ l ∷ []) mine.taken }
  part_after (miss word wanted found) may = replaced (miss word wanted found) _ record { calls = mine.calls; sealed = mine.sealed; missed = ap (λ z. z ++ record { word = word; found = found } ∷ []) mine.missed; claimed = mine.claimed; taken = mine.taken }
  part_after (commit stamp b q) may = replaced (commit stamp b q) _ record { calls = ap (λ z. z ++ Commit q.context.thread (sealed_block stamp v.worker b) ∷ []) mine.calls; sealed = ap (λ z. z ++ sealed_block stamp v.worker b ∷ []) mine.sealed; missed = mine.missed; claimed = mine.claimed; taken = mine.taken }
  part_after (put q place) may = replaced (put q place) _ record { calls = ap (λ z. z ++ put_call q place ∷ []) mine.calls; sealed = mine.sealed; missed = mine.missed; claimed = mine.claimed; taken = mine.taken }
  part_after (free l) may = replaced (free l) _ record { calls = ap (λ z. z ++ Free l.number ∷ []) mine.calls; sealed = mine.sealed; missed = mine.missed; claimed = mine.claimed; taken = mine.taken }
  part_after (look t found) may = replaced (look t found) _ record { calls = ap (λ z. z ++ Look t found ∷ []) mine.calls; sealed = mine.sealed; missed = mine.missed; claimed = mine.claimed; taken = mine.taken }
  part_after (stopped found) may = replaced (stopped found) _ record { calls = ap (λ z. z ++ Stopped found ∷ []) mine.calls; sealed = mine.sealed; missed = mine.missed; claimed = mine.claimed; taken = mine.taken }
  part_after stop may = replaced stop _ record { calls = ap (λ z. z ++ Stop ∷ []) mine.calls; sealed = mine.sealed; missed = mine.missed; claimed = mine.claimed; taken = mine.taken }
  part_after (line i c) may = replaced (line i c) _ record { calls = ap (λ z. z ++ Line i c ∷ []) mine.calls; sealed = mine.sealed; missed = mine.missed; claimed = mine.claimed; taken = mine.taken }
  part_after (reach slot) may = replaced (reach slot) _ record { calls = mine.calls; sealed = mine.sealed; missed = mine.missed; claimed = mine.claimed; taken = mine.taken }
  part_after (lay slot) may = replaced (lay slot) _ record { calls = mine.calls; sealed = mine.sealed; missed = mine.missed; claimed = mine.claimed; taken = mine.taken }
  part_after split may = made_another
  part_after (join other w) may = joined_in other w may.0 may.1

module _ (k : HallTerms) where
  parts_by : (first : Hall) → IsOpening k first → (order : List Made) → IsLegal k first order → (id : ℕ) (v : Knows) → get_elem? (hall_after k first order).views id ≡ some v → v.spent ≡ false → HasNoted v (notes_of order id)
  parts_by first begins [] legal id v at live = first_has id v (subst (λ (z : Hall). get_elem? z.views id ≡ some v) begins.is at)
    where
      first_has : (id : ℕ) (v : Knows) → get_elem? (starting k ∷ []) id ≡ some v → HasNoted v no_notes
      first_has zero v e = subst (λ (z : Knows). HasNoted z no_notes) (some-injective (starting k) v e) record { calls = refl; sealed = refl; missed = refl; claimed = refl; taken = refl }
      first_has (suc id) v e = absurd (some-ne-none v (sym e))
  parts_by first begins (m ∷ before) legal id v at live =
      part_after k (hall_after k first before) before m.pass m.knew legal.0.pass legal.0.live (parts_by first begins before legal.1)
      (none_yet k first before legal.1 (length (hall_after k first before).views) (omega arith)) m.operation legal.0.may id v at live

pub parts : HasOwnNotes
parts k s d id v at live = parts_by k d.first d.opens d.order d.legal id v (subst (λ (z : Hall). get_elem? z.views id ≡ some v) d.is at) live
