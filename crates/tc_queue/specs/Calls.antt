-- What the calls of a queue answer, given the tail or the link that they find, and what they leave.
use Rattle.std.specs.Prelude.{◌≡◌, ◌≢◌, ℕ, ◌<◌, ◌==◌, ◌&&◌, Bool, false, if◌then◌else◌, List, [], ◌∷◌, ◌++◌, Option, Some, None}
use mathlib.Core.Option.{some}
use lib.ListN.{get_elem?}
use Rattle.tc_queue.specs.declared.turn.Turn.{Turn}
use Rattle.tc_queue.specs.declared.turn.Entered.{Entered}
use Rattle.tc_queue.specs.declared.turn.Entered.TheVariants.{First, Behind}
use Rattle.tc_queue.specs.declared.turn.Leave.{Leave as LeaveAnswer}
use Rattle.tc_queue.specs.declared.turn.Leave.TheVariants.{Left, Followed}
use Rattle.tc_queue.specs.declared.turn.QueueCall.{QueueCall}
use Rattle.tc_queue.specs.declared.turn.QueueCall.TheVariants.{Enter, Link, Next, Leave}
use Rattle.tc_queue.specs.declared.words.Linked.{Linked}
use Rattle.tc_queue.specs.declared.board.SeatLog.{SeatLog}
use Rattle.tc_queue.specs.Words.{IsTurn, IsLinked}

-- ---- answers

-- nobody is there, or the turn at the tail
abbrev pub answer_to_enter : Option Turn → Entered
answer_to_enter None = First
answer_to_enter (Some last) = Behind last

-- the turn behind this one, if the link of its thread is of this number
abbrev pub answer_to_next : Turn → Option Linked → Option Turn
answer_to_next u None = None
answer_to_next u (Some l) = if l.before == u.number then Some l.behind else None

-- the turn is the tail
abbrev pub is_last : Turn → Option Turn → Bool
is_last u None = false
is_last u (Some last) = (last.thread == u.thread) && (last.number == u.number)

abbrev pub answer_to_leave : Turn → Option Turn → LeaveAnswer
answer_to_leave u tail = if is_last u tail then Left else Followed tail

-- ---- calls with their answers, and effects: the tail after a call, and the list of the seat that made it

abbrev pub with_call : SeatLog → QueueCall → SeatLog
with_call v c = record v { calls = v.calls ++ c ∷ [] }

abbrev pub enter_call : Turn → Option Turn → QueueCall
enter_call u tail = Enter u (answer_to_enter tail)

abbrev pub next_call : Turn → Option Linked → QueueCall
next_call u link = Next u (answer_to_next u link)

abbrev pub leave_call : Turn → Option Turn → QueueCall
leave_call u tail = Leave u (answer_to_leave u tail)

abbrev pub tail_without : Turn → Option Turn → Option Turn
tail_without u tail = if is_last u tail then None else tail

abbrev pub enter_effect : Turn → Option Turn → SeatLog → Option Turn × SeatLog
enter_effect u tail v = (Some u, with_call v (enter_call u tail))

abbrev pub leave_effect : Turn → Option Turn → SeatLog → Option Turn × SeatLog
leave_effect u tail v = (tail_without u tail, with_call v (leave_call u tail))

-- a tail of a queue for n threads
abbrev pub IsTail : ℕ → Option Turn → Type 0
IsTail n tail = (u : Turn) → tail ≡ Some u → IsTurn n u

-- a link of such a queue
abbrev pub IsLink : ℕ → Option Linked → Type 0
IsLink n link = (l : Linked) → link ≡ Some l → IsLinked n l

-- one step of `enter`: the tail before and after, and the seat's list before and after
pub record DidEnter (n : ℕ) (u : Turn) (answer : Entered) (v w : SeatLog) : Type 0 where
  pub found : Option Turn
  pub tail : Option Turn
  pub in_range : IsTail n found
  pub answers : answer ≡ answer_to_enter found
  pub effect : (tail, w) ≡ enter_effect u found v

-- one step of `leave`
pub record DidLeave (n : ℕ) (u : Turn) (answer : LeaveAnswer) (v w : SeatLog) : Type 0 where
  pub found : Option Turn
  pub tail : Option Turn
  pub in_range : IsTail n found
  pub answers : answer ≡ answer_to_leave u found
  pub effect : (tail, w) ≡ leave_effect u found v

-- ---- what a seat's list implies

-- u entered behind b
abbrev pub HasEntered : List QueueCall → Turn → Turn → Type 0
HasEntered calls u b = (i : ℕ) × (get_elem? calls i ≡ some (Enter u (Behind b)))

-- u entered behind b, and was not linked since
abbrev pub MayLink : List QueueCall → Turn → Turn → Type 0
MayLink calls u b = (i : ℕ) × (get_elem? calls i ≡ some (Enter u (Behind b))) × ((j : ℕ) (x : Turn) → i < j → get_elem? calls j ≢ some (Link x u))

-- each turn that `enter` answered is one of the queue's
abbrev pub AreBehind : ℕ → List QueueCall → Type 0
AreBehind n calls = (u b : Turn) → HasEntered calls u b → IsTurn n b

abbrev pub KnowsTurns : SeatLog → Type 0
KnowsTurns v = AreBehind v.threads v.calls
