-- What holds for all seats of a queue together, and for its tail as the waiting queue of a lock.
use Rattle.std.specs.Prelude.{◌≡◌, ℕ, List, [], ◌∷◌, ◌++◌, Option, Some, None}
use mathlib.Core.Option.{some}
use lib.ListN.{get_elem?}
use Rattle.atomic_table.specs.Table.{State}
use Rattle.tc_queue.specs.declared.turn.Turn.{Turn}
use Rattle.tc_queue.specs.declared.turn.Entered.TheVariants.{Behind}
use Rattle.tc_queue.specs.declared.turn.Leave.TheVariants.{Left}
use Rattle.tc_queue.specs.declared.turn.QueueCall.TheVariants.{Next}
use Rattle.tc_queue.specs.declared.board.SeatLog.{SeatLog}
use Rattle.tc_queue.specs.Calls.{HasEntered, answer_to_enter, answer_to_leave, enter_effect, leave_effect}
use Rattle.tc_queue.specs.Order.{IsOrdered}

-- ---- order of service

-- the list of some seat shows that u entered behind b
abbrev pub IsShown : List SeatLog → Turn → Turn → Type 0
IsShown logs u b = (id : ℕ) × (v : SeatLog) × (get_elem? logs id ≡ some v) × HasEntered v.calls u b

-- each turn that some `next` answered entered behind the turn that was asked for
abbrev pub AreServed : List SeatLog → Type 0
AreServed logs = (id : ℕ) (v : SeatLog) (i : ℕ) (b u : Turn) → get_elem? logs id ≡ some v → get_elem? v.calls i ≡ some (Next b (Some u)) → IsShown logs u b

abbrev pub Serves : Type 0
Serves = (n : ℕ) (s : State ℕ SeatLog) → IsOrdered n s → AreServed s.views

-- ---- the waiting queue of a lock: threads in the order of entry

-- the tail represents the queue: both are empty, or the tail is the turn of the last thread
abbrev pub Shows : Option Turn → List ℕ → Type 0
Shows None line = line ≡ []
Shows (Some u) line = (front : List ℕ) × (line ≡ front ++ u.thread ∷ [])

-- after an `enter` the tail represents the queue with the entrant at its end, who is behind the one that was last
pub record EnterTies (u : Turn) (tail : Option Turn) (v : SeatLog) (line : List ℕ) : Type 0 where
  pub shows : Shows (enter_effect u tail v).0 (line ++ u.thread ∷ [])
  pub before : (b : Turn) → answer_to_enter tail ≡ Behind b → (front : List ℕ) × (line ≡ front ++ b.thread ∷ [])

abbrev pub EnterTie : Type 0
EnterTie = (u : Turn) (tail : Option Turn) (v : SeatLog) (line : List ℕ) → Shows tail line → EnterTies u tail v line

-- a `leave` that answers Left at a queue of one thread is of that thread, and leaves an empty queue
abbrev pub LeaveTie : Type 0
LeaveTie = (u : Turn) (tail : Option Turn) (v : SeatLog) (only : ℕ) → Shows tail (only ∷ []) → answer_to_leave u tail ≡ Left → (only ≡ u.thread) × Shows (leave_effect u tail v).0 []
