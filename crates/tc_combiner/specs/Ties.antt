-- The tail of a queue simulates the queue of the lock in any state of the abstract machine.
use Rattle.std.specs.Prelude.{◌≡◌, ℕ, true, List, [], ◌∷◌, ◌++◌, Option}
use Rattle.tc_elf.specs.Shown.{Shown}
use Rattle.tc_core.specs.Core.{Core, Limits}
use Rattle.tc_core.specs.Events.{is_enabled, effect}
use Rattle.tc_core.specs.declared.event.Event.TheVariants.{Enter, Leave}
use Rattle.tc_queue.specs.declared.turn.Turn.{Turn}
use Rattle.tc_queue.specs.declared.turn.Entered.TheVariants.{Behind}
use Rattle.tc_queue.specs.declared.turn.Leave.TheVariants.{Left}
use Rattle.tc_queue.specs.declared.board.SeatLog.{SeatLog}
use Rattle.tc_queue.specs.Calls.{answer_to_enter, answer_to_leave, enter_effect, leave_effect}
use Rattle.tc_queue.specs.Laws.{Shows}

abbrev pub line_of : Core → ℕ → List ℕ
line_of c lock = (c.custody lock).line

-- after an `enter` the tail represents the queue after the event, and the answered turn is of the thread before
pub record EnterTies (image : Shown) (c : Core) (w lock : ℕ) (u : Turn) (tail : Option Turn) (v : SeatLog) : Type 0 where
  pub shows : Shows (enter_effect u tail v).0 (line_of (effect image c (Enter w u.thread lock)) lock)
  pub before : (b : Turn) → answer_to_enter tail ≡ Behind b → (front : List ℕ) × (line_of c lock ≡ front ++ b.thread ∷ [])

-- whenever the tail represents the queue and the event is enabled
abbrev pub EnterTie : Type 0
EnterTie = (image : Shown) (limits : Limits) (c : Core) (w lock : ℕ) (u : Turn) (tail : Option Turn) (v : SeatLog) → Shows tail (line_of c lock) → is_enabled image limits c (Enter w u.thread lock) ≡ true → EnterTies image c w lock u tail v

-- the same after a `leave` that answers Left
abbrev pub LeaveTie : Type 0
LeaveTie = (image : Shown) (limits : Limits) (c : Core) (w lock : ℕ) (u : Turn) (tail : Option Turn) (v : SeatLog) → Shows tail (line_of c lock) → is_enabled image limits c (Leave w lock) ≡ true → answer_to_leave u tail ≡ Left
    → Shows (leave_effect u tail v).0 (line_of (effect image c (Leave w lock)) lock)
