-- What the rule of a queue says of the lists of its seats.
use Rattle.std.proofs.Common.{◌≡◌, ℕ, zero, suc, ◌<◌, ◌≤◌, List, [], ◌∷◌, length, sym, refl, ap, ◌∙◌, arith, lt_of_not-le}
use mathlib.Core.Logic.{dite}
use mathlib.Core.Option.{some, some-ne-none}
use native.Mathlib.Decide.{dec_le}
use lib.ListN.{get_elem?}
use Rattle.atomic_table.specs.Table.{State}
use Rattle.tc_queue.specs.declared.turn.Turn.{Turn}
use Rattle.tc_queue.specs.declared.turn.QueueCall.{QueueCall}
use Rattle.tc_queue.specs.declared.turn.QueueCall.TheVariants.{Enter}
use Rattle.tc_queue.specs.declared.turn.Entered.TheVariants.{Behind}
use Rattle.tc_queue.specs.declared.board.SeatLog.{SeatLog}
use Rattle.tc_queue.specs.Order.{calls_of, IsOrdered}
use Rattle.tc_queue.specs.Laws.{IsShown, Serves}
use Rattle.tc_queue.proofs.Orders.{WasEntered, served, no_calls}

seat_there : (l : List SeatLog) (i : ℕ) → i < length l → (v : SeatLog) × (get_elem? l i ≡ some v)
seat_there [] i h = absurd (omega arith)
seat_there (x ∷ xs) zero h = (x, refl)
seat_there (x ∷ xs) (suc i) h = seat_there xs i (omega arith)

-- who entered has a seat whose list shows it
shown : (n : ℕ) (s : State ℕ SeatLog) (r : IsOrdered n s) (u b : Turn) → WasEntered r.order u b → IsShown s.views u b
shown n s r u b was = dite (dec_le (length s.views) was.0)
    (λ (high : length s.views ≤ was.0).
    let none_made : calls_of was.0 r.order ≡ [] = no_calls was.0 r.order (λ k d h. let low = r.made k d h in omega arith) in
    absurd (some-ne-none (Enter u (Behind b)) (sym (sym (ap (λ (l : List QueueCall). get_elem? l was.1.0) none_made) ∙ was.1.1))))
    (λ low.
    let there = seat_there s.views was.0 (lt_of_not-le low) in
    (was.0, there.0, there.1, (was.1.0, ap (λ (v : SeatLog). get_elem? v.calls was.1.0) (r.seats was.0 there.0 there.1) ∙ was.1.1)))

pub serves : Serves
serves n s r id v i b u at said = shown n s r u b (served n r.order id i b u r.legal (sym (ap (λ (z : SeatLog). get_elem? z.calls i) (r.seats id v at)) ∙ said))
