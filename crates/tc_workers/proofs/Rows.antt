-- Rows of seats, while queues are made.
use Rattle.std.proofs.Common.{◌≡◌, ◌≢◌, ℕ, true, ◌+◌, ◌<◌, ◌≤◌, List, [], ◌∷◌, ◌++◌, All, length, map, set, get_or, refl, sym, ap, ◌∙◌, subst, ⊎_elim, arith, length-append}
use Rattle.std.proofs.lemmas.List.{map-append, length-set}
use mathlib.Core.Option.{some, some-injective}
use lib.ListN.{get_elem?}
use Rattle.atomic_table.proofs.Lists.{at_longer, at_last}
use Rattle.tc_mutex_spec.proofs.ListLaws.{there, set_at}
use Rattle.tc_queue.specs.Lines.{SeatView, IsSeatOf}
use Rattle.tc_queue.specs.View.{QueueView}
use Rattle.tc_elf.specs.Shown.{Shown}
use Rattle.tc_hall.specs.declared.board.HallTerms.{HallTerms}
use Rattle.tc_hall.specs.Rule.{locks}
use Rattle.tc_order.specs.declared.in_hall.InHall.{InHall}
use Rattle.tc_order.specs.Order.{AreInOrder, IsLineOf}
use Rattle.tc_workers.specs.Crew.{AreSeatsOf}
use Rattle.tc_workers.specs.Rows.{AreDealtOut, AreInPlace}
use Rattle.tc_lemmas.proofs.Lists.{at_end, at_itself, something_at}

-- a row with a seat of one queue more
row_more : (qs : List QueueView) (q : QueueView) (row : List SeatView) (s : SeatView) → AreSeatsOf qs row → IsSeatOf q s → AreSeatsOf (qs ++ q ∷ []) (row ++ s ∷ [])
row_more qs q row s of own = record {
  count = let a = length-append row (s ∷ []) in let b = length-append qs (q ∷ []) in let c = of.count in omega arith;
  each = λ i r t e f. ⊎_elim
      (λ (h : get_elem? qs i ≡ some r). ⊎_elim
      (λ (g : get_elem? row i ≡ some t). of.each i r t h g)
      (λ (g : (i ≡ length row) × (s ≡ t)). let b = (there qs i r r h).0 in let c = of.count in let a = g.0 in absurd (omega arith))
      (at_end row s t i f))
      (λ (h : (i ≡ length qs) × (q ≡ r)). ⊎_elim
      (λ (g : get_elem? row i ≡ some t). let b = (there row i t t g).0 in let c = of.count in let a = h.0 in absurd (omega arith))
      (λ (g : (i ≡ length row) × (s ≡ t)). subst (λ (z : QueueView × SeatView). IsSeatOf z.0 z.1) (λ j. (h.1 j, g.1 j)) own)
      (at_end row s t i f))
      (at_end qs q r i e);
}

-- each row has a seat of each of these queues
abbrev pub AreRows : {X S : Type 0} → (X → List S) → (S → SeatView) → List QueueView → List X → Type 0
AreRows items seen qs rows = All (λ row. AreSeatsOf qs (map seen (items row))) rows

pub no_seats : {X S : Type 0} (items : X → List S) (seen : S → SeatView) (qs : List QueueView) (rows : List X) → qs ≡ [] → All (λ row. items row ≡ []) rows → AreRows items seen qs rows
no_seats items seen qs rows none all k d lt = subst (λ (z : List QueueView × List SeatView). AreSeatsOf z.0 z.1) (λ i. (sym none i, map seen (sym (all k d lt) i))) record { count = refl; each = λ i q s e f. let low = (there [] i q q e).0 in absurd (omega arith) }

-- ---- seats that are dealt out, from the last one on

-- the rows from the number n on have their seat
pub record Dealing {X S : Type 0} (items : X → List S) (rows : List X) (seats : List S) (n : ℕ) (now : List X) : Type 0 where
  pub count : length now ≡ length rows
  pub left : (w : ℕ) (row : X) → w < n → get_elem? now w ≡ some row → get_elem? rows w ≡ some row
  pub more : (w : ℕ) (row new : X) (s : S) → n ≤ w → get_elem? rows w ≡ some row → get_elem? seats w ≡ some s → get_elem? now w ≡ some new → items new ≡ items row ++ s ∷ []

-- these seats are the first ones of all
pub record AreFirst {S : Type 0} (some_of all : List S) : Type 0 where
  pub each : (i : ℕ) (s : S) → get_elem? some_of i ≡ some s → get_elem? all i ≡ some s

pub all_first : {S : Type 0} (all : List S) → AreFirst all all
all_first all = record { each = λ i s e. e }

module _ {S : Type 0} (all firsts rest : List S) (s : S) (of : AreFirst firsts all) (split : firsts ≡ rest ++ s ∷ []) where
  pub firsts_less : AreFirst rest all
  firsts_less = record { each = λ i t e. of.each i t (ap (λ (l : List S). get_elem? l i) split ∙ at_longer rest (s ∷ []) i t e) }

  -- the last of them stands in the whole list at its place
  pub last_first : get_elem? all (length rest) ≡ some s
  last_first = of.each (length rest) s (ap (λ (l : List S). get_elem? l (length rest)) split ∙ at_last rest s (length rest) refl)

module _ {X S : Type 0} (items : X → List S) (rows : List X) (seats : List S) where
  pub dealt_none : (n : ℕ) → length seats ≤ n → length seats ≡ length rows → Dealing items rows seats n rows
  dealt_none n past same = record {
    count = refl;
    left = λ w row lt e. e;
    more = λ w row new s le e f g. let low = (there seats w s s f).0 in absurd (omega arith);
  }

  pub dealt_one : (n : ℕ) (now after : List X) (rest all : List S) (s : S) (row new d : X) → Dealing items rows seats n now → AreFirst all seats → all ≡ rest ++ s ∷ [] → length rest + 1 ≡ n → length rest < length now
      → get_or now (length rest) d ≡ row → items new ≡ items row ++ s ∷ [] → after ≡ set now (length rest) new → Dealing items rows seats (length rest) after
  dealt_one n now after rest all s row new d old firsts split one lt at is then = subst (Dealing items rows seats (length rest)) (sym then) record {
    count = length-set now (length rest) new ∙ old.count;
    left = λ w r low e. ⊎_elim
        (λ (h : (w ≡ length rest) × (new ≡ r)). let a = h.0 in absurd (omega arith))
        (λ (h : (w ≢ length rest) × (get_elem? now w ≡ some r)). old.left w r (omega arith) h.1)
        (set_at now (length rest) w new r e);
    more = λ w r t u high e f g. ⊎_elim
        (λ (h : (w ≡ length rest) × (new ≡ t)).
        let same_row : row ≡ r = some-injective row r (sym was ∙ ap (get_elem? rows) (sym h.0) ∙ e) in
        let same_seat : s ≡ u = some-injective s u (sym here ∙ ap (get_elem? seats) (sym h.0) ∙ f) in
        ap items (sym h.1) ∙ is ∙ (λ j. items (same_row j) ++ same_seat j ∷ []))
        (λ (h : (w ≢ length rest) × (get_elem? now w ≡ some t)). let ne = h.0 in old.more w r t u (omega arith) e f h.1)
        (set_at now (length rest) w new t g);
  }
    where
      here : get_elem? seats (length rest) ≡ some s
      here = last_first seats all rest s firsts split

      was : get_elem? rows (length rest) ≡ some row
      was = old.left (length rest) row (omega arith) (at_itself now (length rest) d lt ∙ ap some at)

  pub dealt_all : (now : List X) → Dealing items rows seats 0 now → AreDealtOut items rows seats now
  dealt_all now all = record { count = all.count; each = λ w row new s e f g. all.more w row new s (omega arith) e f g }

-- ---- a queue more

-- what holds of each row, by its number, once its seat was dealt out
pub row_by_row : {X S : Type 0} (items : X → List S) (rows : List X) (seats : List S) (more : List X) (P : ℕ → List S → Type 0) → AreDealtOut items rows seats more → length seats ≡ length rows
    → ((w : ℕ) (row : X) (s : S) → get_elem? rows w ≡ some row → get_elem? seats w ≡ some s → P w (items row ++ s ∷ [])) → (w : ℕ) (new : X) → get_elem? more w ≡ some new → P w (items new)
row_by_row items rows seats more P dealt same so w new e =
    let low = (there more w new new e).0 in
    let count = dealt.count in
    let row = something_at rows w (omega arith) in
    let seat = something_at seats w (omega arith) in
    subst (P w) (sym (dealt.each w row.0 new seat.0 row.1 seat.1 e)) (so w row.0 seat.0 row.1 seat.1)

pub rows_more : {X S : Type 0} (items : X → List S) (seen : S → SeatView) (qs : List QueueView) (q : QueueView) (rows : List X) (seats : List S) (more : List X) → AreRows items seen qs rows → All (λ s. IsSeatOf q (seen s)) seats
    → length seats ≡ length rows → AreDealtOut items rows seats more → AreRows items seen (qs ++ q ∷ []) more
rows_more items seen qs q rows seats more all own same dealt k d lt =
    row_by_row items rows seats more (λ w row. AreSeatsOf (qs ++ q ∷ []) (map seen row)) dealt same
    (λ w row s e f. let r = there rows w row row e in let t = there seats w s s f in
    subst (AreSeatsOf (qs ++ q ∷ [])) (sym (map-append seen (items row) (s ∷ [])))
    (row_more qs q (map seen (items row)) (seen s) (subst (λ x. AreSeatsOf qs (map seen (items x))) r.1 (all w row r.0)) (subst (λ x. IsSeatOf q (seen x)) t.1 (own w s t.0))))
    k (get_or more k d) (at_itself more k d lt)

-- each queue is made for so many threads
abbrev pub AreMadeFor : ℕ → List QueueView → Type 0
AreMadeFor threads qs = (i : ℕ) (q : QueueView) → get_elem? qs i ≡ some q → q.threads ≡ threads

pub queues_more : (n : ℕ) (qs more : List QueueView) (q : QueueView) → AreMadeFor n qs → q.threads ≡ n → more ≡ qs ++ q ∷ [] → AreMadeFor n more
queues_more n qs more q all new is i r e = ⊎_elim
    (λ (h : get_elem? qs i ≡ some r). all i r h)
    (λ (h : (i ≡ length qs) × (q ≡ r)). subst (λ (x : QueueView). x.threads ≡ n) h.1 new)
    (at_end qs q r i (sym (ap (λ (l : List QueueView). get_elem? l i) is) ∙ e))

-- lines in place are each that of its number
pub in_order : {n : ℕ} (lines : List InHall) → AreInPlace n lines → AreInOrder (λ (l : InHall) i. l.lock ≡ i) lines
in_order lines placed i l low = (placed i (get_or lines i l) (at_itself lines i l low)).0

-- and those of a hall with lines
pub all_in_hall : (k : HallTerms) (image : Shown) (lines : List InHall) → k.lined ≡ true → k.image.value ≡ image → length lines ≡ length image.guards → AreInPlace (length image.entries) lines → All (λ l. IsLineOf k l.lock l.seats.threads) lines
all_in_hall k image lines lined same count placed i d lt =
    let at = placed i (get_or lines i d) (at_itself lines i d lt) in
    let lock = at.0 in
    let all : locks k ≡ length image.guards = ap (λ (x : Shown). length x.guards) same in record {
      lined = lined;
      below = omega arith;
      all = at.1 ∙ sym (ap (λ (x : Shown). length x.entries) same);
    }
