-- What contracts see of any order of waiters: which queue, and for a seat the calls that were made with it.
use Rattle.std.specs.Prelude.{◌≡◌, ◌≢◌, ℕ, ◌+◌, ◌*◌, ◌^◌, ◌<◌, List, [], ◌∷◌, ◌++◌, map, Option}
use mathlib.Core.Option.{some}
use lib.ListN.{get_elem?}
use Rattle.atomic_table.specs.Seated.{TableId}
use Rattle.tc_queue.specs.declared.turn.Turn.{Turn}
use Rattle.tc_queue.specs.declared.turn.Arrival.{Arrival}
use Rattle.tc_queue.specs.declared.turn.Arrival.TheVariants.{First as Came_first, Behind as Came_behind}
use Rattle.tc_queue.specs.declared.turn.Departure.{Departure}
use Rattle.tc_queue.specs.declared.turn.Departure.TheVariants.{Left as Has_left, Followed as Was_followed}
use Rattle.tc_queue.specs.declared.turn.QueueCall.{QueueCall}
use Rattle.tc_queue.specs.declared.turn.QueueCall.TheVariants.{Enter as Own_enter, Link as Own_link, Next as Own_next, Leave as Own_leave}
use Rattle.tc_queue.specs.declared.turn.Entered.{Entered as OwnEntered}
use Rattle.tc_queue.specs.declared.turn.Entered.TheVariants.{First as Own_first, Behind as Own_behind}
use Rattle.tc_queue.specs.declared.turn.Leave.{Leave as OwnLeave}
use Rattle.tc_queue.specs.declared.turn.Leave.TheVariants.{Left as Own_left, Followed as Own_followed}
use Rattle.tc_queue.specs.Words.{IsTurn}
use Rattle.tc_queue.specs.View.{QueueView, OwnView}

-- ---- any order of waiters

-- nobody was there, or the mark of the place behind which the entrant is
pub data Entered : Type 0 where
  First : Entered
  Behind : ℕ → Entered

-- a call with its answer, as plain data
pub data LineCall : Type 0 where
  Enter : Turn → Entered → LineCall
  Link : ℕ → Turn → LineCall
  Next : Turn → Option Turn → LineCall
  Leave : Turn → Departure → LineCall

pub record SeatView : Type 0 where
  pub table : TableId
  pub threads : ℕ
  pub calls : List LineCall

abbrev pub IsSeatOf : QueueView → SeatView → Type 0
IsSeatOf q s = (s.table ≡ q.table) × (s.threads ≡ q.threads)

-- a call for this turn may be made with this seat of the queue
pub record MayCall (q : QueueView) (s : SeatView) (u : Turn) : Type 0 where
  pub seat : IsSeatOf q s
  pub turn : IsTurn q.threads u

-- and it is the turn that the step of the call names
pub record MayStep (q : QueueView) (s : SeatView) (u named : Turn) : Type 0 where
  pub may : MayCall q s u
  pub picked : u ≡ named

abbrev pub with_line : SeatView → LineCall → SeatView
with_line s c = record s { calls = s.calls ++ c ∷ [] }

abbrev pub answer : {P : Type 0} → (P → ℕ) → Arrival P → Entered
answer mark Came_first = First
answer mark (Came_behind place) = Behind (mark place)

-- an `enter` of u answered the place of this mark, and u has not been linked since
abbrev pub MayLinkTo : List LineCall → Turn → ℕ → Type 0
MayLinkTo calls u mark = (i : ℕ) × (get_elem? calls i ≡ some (Enter u (Behind mark))) × ((j other : ℕ) → i < j → get_elem? calls j ≢ some (Link other u))

-- the turn may be linked to the place of this mark with this seat of the queue
pub record MayLinkWith (q : QueueView) (s : SeatView) (u : Turn) (mark : ℕ) : Type 0 where
  pub seat : IsSeatOf q s
  pub turn : IsTurn q.threads u
  pub entered : MayLinkTo s.calls u mark

-- the place that was just answered may be linked
abbrev pub IsLinkable : {P : Type 0} → (P → ℕ) → Turn → Arrival P → List LineCall → Type 0
IsLinkable mark u Came_first calls = Unit {0}
IsLinkable mark u (Came_behind place) calls = MayLinkTo calls u (mark place)

-- ---- the queue, as such an order

-- a turn as one number
abbrev pub mark_of : Turn → ℕ
mark_of u = 2 ^ 32 * u.number + u.thread

abbrev pub entered_as : OwnEntered → Entered
entered_as Own_first = First
entered_as (Own_behind before) = Behind (mark_of before)

abbrev pub departed_as : OwnLeave → Departure
departed_as Own_left = Has_left
departed_as (Own_followed tail) = Was_followed

abbrev pub call_as : QueueCall → LineCall
call_as (Own_enter u a) = Enter u (entered_as a)
call_as (Own_link b u) = Link (mark_of b) u
call_as (Own_next u a) = Next u a
call_as (Own_leave u a) = Leave u (departed_as a)

abbrev pub seat_as : OwnView → SeatView
seat_as s = record { table = s.table; threads = s.log.threads; calls = map call_as s.log.calls }
