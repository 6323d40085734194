-- A desk's seats, and the queues of a bench, by their places.
use Rattle.std.proofs.Common.{◌≡◌, ◌≢◌, ℕ, zero, suc, ◌<◌, List, [], ◌∷◌, length, map, get_or, set, refl, sym, ap, ◌∙◌, subst, subst₂, arith, length-set, get_or-set_same, get_or-set_other, Vec}
use Rattle.std.specs.Vec.{with_items}
use Rattle.tc_combiner.proofs.Vocabulary.{AreSameSeats, AreSeats, AtSeat, IsSameSeat, IsSeatFor, QueueView, SeatView, HallTerms, dite, get_or_default, length-map, locks, no_seat, seat_at, threads, ℕ_discrete}
use Rattle.std.proofs.lemmas.List.{map-set, with_items_is}

module _ {A B : Type 0} where
  pub map_at : (f : A → B) (xs : List A) (i : ℕ) (d : A) → get_or (map f xs) i (f d) ≡ f (get_or xs i d)
  map_at f [] i d = refl
  map_at f (x ∷ xs) zero d = refl
  map_at f (x ∷ xs) (suc i) d = map_at f xs i d

module _ {S : Type 0} where
  -- the seat at a place, as the desk shows it
  pub seat_before : (seen : S → SeatView) (ss : List S) (i : ℕ) (s : S) (d : SeatView) → i < length ss → s ≡ get_or ss i s → get_or (map seen ss) i d ≡ seen s
  seat_before seen ss i s d h is = get_or_default (map seen ss) i d (seen s) (let l = length-map ss seen in omega arith) ∙ (map_at seen ss i s ∙ ap seen (sym is))

  pub seat_after : (seen : S → SeatView) (ss : List S) (i : ℕ) (t : S) (d : SeatView) → i < length ss → get_or (map seen (set ss i t)) i d ≡ seen t
  seat_after seen ss i t d h = ap (λ (l : List SeatView). get_or l i d) (map-set seen ss i t) ∙ get_or-set_same (map seen ss) i (seen t) d (let l = length-map ss seen in omega arith)

  pub other_seats : (seen : S → SeatView) (ss : List S) (i j : ℕ) (t : S) (d : SeatView) → j ≢ i → get_or (map seen (set ss i t)) j d ≡ get_or (map seen ss) j d
  other_seats seen ss i j t d ne = ap (λ (l : List SeatView). get_or l j d) (map-set seen ss i t) ∙ get_or-set_other (map seen ss) i j (seen t) d ne

  -- a seat of the same queue stands where it stood
  pub seats_set : (seen : S → SeatView) (ss : List S) (i : ℕ) (s t : S) → i < length ss → s ≡ get_or ss i s → IsSameSeat (seen (get_or ss i s)) (seen t) → AreSameSeats (map seen ss) (map seen (set ss i t))
  seats_set seen ss i s t deep is same = record {
    count = ap length (map-set seen ss i t) ∙ length-set (map seen ss) i (seen t);
    each = λ j. dite (ℕ_discrete j i)
        (λ (e : j ≡ i). subst (λ (n : ℕ). IsSameSeat (seat_at (map seen ss) n) (seat_at (map seen (set ss i t)) n)) (sym e)
        (subst₂ (λ (a b : SeatView). IsSameSeat a b) (sym (seat_before seen ss i s no_seat deep is ∙ ap seen is)) (sym (seat_after seen ss i t no_seat deep)) same))
        (λ (ne : j ≢ i). let e = other_seats seen ss i j t no_seat ne in (ap (λ (x : SeatView). x.table) e, ap (λ (x : SeatView). x.threads) e));
  }

  -- what was done at one seat
  pub at_seat : (seen : S → SeatView) (P : SeatView → SeatView → Type 0) (ss : List S) (i : ℕ) (s t : S) → i < length ss → s ≡ get_or ss i s → IsSameSeat (seen (get_or ss i s)) (seen t) → P (seen (get_or ss i s)) (seen t) → AtSeat i (map seen ss) (map seen (set ss i t)) P
  at_seat seen P ss i s t deep is same h =
      let before : seat_at (map seen ss) i ≡ seen (get_or ss i s) = seat_before seen ss i s no_seat deep is ∙ ap seen is in
      let after : seat_at (map seen (set ss i t)) i ≡ seen t = seat_after seen ss i t no_seat deep in record {
        same = seats_set seen ss i s t deep is same;
        others = λ j ne. other_seats seen ss i j t no_seat ne;
        here = subst₂ P (sym before) (sym after) h;
      }

module _ {S X : Type 0} where
  -- the seat and the queue at one place
  pub at_one : (seen : S → SeatView) (queue : X → QueueView) (k : HallTerms) (qs : List X) (ss : List S) (i : ℕ) (x : X) (s : S) → AreSeats k (map queue qs) (map seen ss) → i < locks k → IsSeatFor (threads k) (queue (get_or qs i x)) (seen (get_or ss i s))
  at_one seen queue k qs ss i x s of low = subst₂ (λ (a : QueueView) (b : SeatView). IsSeatFor (threads k) a b) (map_at queue qs i x) (map_at seen ss i s) (of i (queue x) (seen s) low)

module _ {S Z : Type 0} where
  -- the seats as they were written back
  pub written_back : (seen : S → SeatView) (v : Vec S Z) (xs ts : List S) → xs ≡ v.items → AreSameSeats (map seen xs) (map seen ts) → (with_items v ts).items ≡ ts
  written_back seen v xs ts e same = with_items_is v ts (sym (length-map ts seen) ∙ (same.count ∙ (length-map xs seen ∙ (ap length e ∙ sym v.ok.0))))
