-- A new queue keeps the rule.
use Rattle.std.proofs.Common.{◌≡◌, ⊎_elim, ◌%◌, ℕ, zero, suc, ◌+◌, ◌≤◌, List, [], ◌∷◌, ◌++◌, All, length, replicate, get_or, sym, refl, ap, ◌∙◌, subst, arith}
use Rattle.std.proofs.lemmas.List.{length-replicate}
use Rattle.tc_queue.proofs.Opening.{zeros}
use mathlib.Core.Option.{some, some-injective, some-ne-none}
use lib.ListN.{get_elem?}
use Rattle.atomic_table.specs.Seated.{TableId}
use Rattle.atomic_table.specs.Table.{opening}
use Rattle.tc_nodes.specs.declared.board.Stand.{Stand}
use Rattle.tc_nodes.specs.declared.board.NodeTerms.{NodeTerms}
use Rattle.tc_nodes.specs.declared.board.Known.{Known}
use Rattle.tc_nodes.specs.Steps.{Sitting}
use Rattle.tc_nodes.specs.View.{NodeQueueView, NodeSeatView, IsSeatOf, IsNewSeat, AreNewSeats}
use Rattle.tc_nodes.specs.Order.{first_known, empty_stand, IsOrdered}
use Rattle.tc_lemmas.proofs.Lists.{at_end, at_itself}

only : (v w : Known) (id : ℕ) → get_elem? (v ∷ []) id ≡ some w → v ≡ w
only v w zero e = some-injective v w e
only v w (suc id) e = absurd (some-ne-none w (sym e))

pub opens : (k : NodeTerms) (words : List ℕ) (slots : List Stand) → k.threads ≤ 64 → words ≡ replicate 66 0 → slots ≡ empty_stand k ∷ [] → IsOrdered k (opening words slots (first_known k))
opens k words slots few are stand = record {
  few = few;
  order = [];
  legal = tt;
  words = record {
    count = ap length are ∙ length-replicate {A = ℕ} 66 0;
    entered = ap (λ (l : List ℕ). get_or l 0 0) are ∙ zeros 66 0;
    line = ap (λ (l : List ℕ). get_or l 1 0) are ∙ zeros 66 1;
    cells = λ j h. ap (λ (l : List ℕ). get_or l (j + 2) 0) are ∙ zeros 66 (j + 2);
  };
  slot = ap (λ (l : List Stand). (opening words l (first_known k)).homes) stand;
  seats = λ id v e. sym (only (first_known k) v id e);
  made = λ j d h. absurd (omega arith);
}

-- ---- seats

pub seat_more : (q : NodeQueueView) (nodes n : ℕ) (xs ys : List NodeSeatView) (s : NodeSeatView) → AreNewSeats q nodes xs → length xs ≡ n → IsNewSeat q (n % nodes) s → ys ≡ xs ++ s ∷ [] → AreNewSeats q nodes ys
seat_more q nodes n xs ys s all count is e w t at = ⊎_elim
    (λ (h : get_elem? xs w ≡ some t). all w t h)
    (λ (h : (w ≡ length xs) × (s ≡ t)). subst (λ (z : ℕ × NodeSeatView). IsNewSeat q (z.0 % nodes) z.1) (λ i. (sym (h.0 ∙ count) i, h.1 i)) is)
    (at_end xs s t w (sym (ap (λ (l : List NodeSeatView). get_elem? l w) e) ∙ at))

-- the seat of a place that has made no step
pub new_seat : (q : NodeQueueView) (table : TableId) (id node : ℕ) (m : Sitting) → table ≡ q.table → m.0 ≡ first_known (record { threads = q.threads; bound = q.bound }) → IsNewSeat q node (record { table = table; id = id; threads = m.0.threads; bound = m.0.bound; node = node; calls = m.0.calls })
new_seat q table id node m same is = record { table = same; threads = ap (λ (v : Known). v.threads) is; bound = ap (λ (v : Known). v.bound) is; node = refl; calls = ap (λ (v : Known). v.calls) is }

pub all_own : (q : NodeQueueView) (nodes : ℕ) (seats : List NodeSeatView) → AreNewSeats q nodes seats → All (IsSeatOf q) seats
all_own q nodes seats new k d low = let is = new k (get_or seats k d) (at_itself seats k d low) in (is.table, is.threads)
