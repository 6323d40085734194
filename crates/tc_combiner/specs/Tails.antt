-- Simulation of queues over a whole order: the calls of a lock's queue with the events that they are, and other events.
use Rattle.std.specs.Prelude.{◌≡◌, ℕ, Bool, true, false, ◌==◌, if◌then◌else◌, List, [], ◌∷◌, ◌++◌, map, Option, Some}
use mathlib.Core.Option.{some}
use lib.ListN.{get_elem?}
use Rattle.tc_elf.specs.Shown.{Shown}
use Rattle.tc_core.specs.Core.{Core, Limits}
use Rattle.tc_core.specs.Lines.{is_second}
use Rattle.tc_core.specs.Events.{is_enabled, effect}
use Rattle.tc_core.specs.Stories.{AreEnabled, after_all}
use Rattle.tc_core.specs.declared.event.Event.{Event}
use Rattle.tc_core.specs.declared.event.Event.TheVariants.{Enter, Leave, Adopt, Grant}
use Rattle.tc_queue.specs.declared.turn.Turn.{Turn}
use Rattle.tc_queue.specs.declared.turn.Leave.TheVariants.{Left}
use Rattle.tc_queue.specs.declared.turn.QueueCall.{QueueCall}
use Rattle.tc_queue.specs.declared.turn.QueueCall.TheVariants.{Enter as Did_enter, Next as Did_ask, Leave as Did_leave}
use Rattle.tc_queue.specs.Laws.{Shows}
use Rattle.tc_queue.specs.Order.{Made, IsLegal, queue_after}
use Rattle.tc_combiner.specs.Ties.{line_of}

-- ---- events

-- the event is an Enter or a Leave of the lock: a call of its queue
abbrev pub is_call : ℕ → Event → Bool
is_call lock (Enter w t k) = lock == k
is_call lock (Leave w k) = lock == k
is_call lock e = false

-- the event is an Adopt or a Grant of the lock: the first of its queue leaves
abbrev pub passes_on : ℕ → Event → Bool
passes_on lock (Adopt w t k) = lock == k
passes_on lock (Grant w t k) = lock == k
passes_on lock e = false

-- the event that a worker's call of the lock's queue simulates, if any
abbrev pub events_of_call : ℕ → ℕ → QueueCall → List Event
events_of_call lock w (Did_enter u a) = Enter w u.thread lock ∷ []
events_of_call lock w (Did_leave u Left) = Leave w lock ∷ []
events_of_call lock w c = []

-- ---- the order

-- a call of the queue by a worker, or another event
pub data Beat : Type 0 where
  Call : ℕ → Made → Beat
  Other : Event → Beat

-- of a list of beats, the latest first: the events in order; the calls, the latest first
abbrev pub events_of : ℕ → List Beat → List Event
events_of lock [] = []
events_of lock (Call w m ∷ before) = events_of lock before ++ events_of_call lock w m.call
events_of lock (Other e ∷ before) = events_of lock before ++ e ∷ []

abbrev pub calls_in : List Beat → List Made
calls_in [] = []
calls_in (Call w m ∷ before) = m ∷ calls_in before
calls_in (Other e ∷ before) = calls_in before

-- no other event is a call of the lock's queue
abbrev pub AreOthers : ℕ → List Beat → Type 0
AreOthers lock [] = Unit {0}
AreOthers lock (Call w m ∷ before) = AreOthers lock before
AreOthers lock (Other e ∷ before) = (is_call lock e ≡ false) × AreOthers lock before

-- the machine after the events
abbrev pub core_after : Shown → Core → ℕ → List Beat → Core
core_after image c lock beats = after_all image c (events_of lock beats)

-- from a state with an empty queue of the lock: the calls are a legal order of a queue, and the events are enabled
pub record GoTogether (image : Shown) (limits : Limits) (c : Core) (threads lock : ℕ) (beats : List Beat) : Type 0 where
  pub empty : line_of c lock ≡ []
  pub legal : IsLegal threads (calls_in beats)
  pub enabled : AreEnabled image limits c (events_of lock beats)
  pub others : AreOthers lock beats

-- ---- the turns in the queue

abbrev pub without_first : List Turn → List Turn
without_first [] = []
without_first (u ∷ us) = us

abbrev pub turns_past : QueueCall → List Turn → List Turn
turns_past (Did_enter u a) us = us ++ u ∷ []
turns_past (Did_leave u Left) us = []
turns_past c us = us

abbrev pub turns_in : ℕ → List Beat → List Turn
turns_in lock [] = []
turns_in lock (Call w m ∷ before) = turns_past m.call (turns_in lock before)
turns_in lock (Other e ∷ before) = if passes_on lock e then without_first (turns_in lock before) else turns_in lock before

-- the turns that entered, in order
abbrev pub entry_of : QueueCall → List Turn
entry_of (Did_enter u a) = u ∷ []
entry_of c = []

abbrev pub entries_of : List Made → List Turn
entries_of [] = []
entries_of (m ∷ before) = entries_of before ++ entry_of m.call

-- no turn is in the list twice
abbrev pub IsOnce : List Turn → Type 0
IsOnce us = (i j : ℕ) (u : Turn) → get_elem? us i ≡ some u → get_elem? us j ≡ some u → i ≡ j

-- ---- the lemmas

-- an enabled Adopt or Grant of the lock takes the first out of the queue, and the tail still represents it
abbrev pub PassTie : Type 0
PassTie = (image : Shown) (limits : Limits) (c : Core) (e : Event) (lock : ℕ) (tail : Option Turn) → passes_on lock e ≡ true → is_enabled image limits c e ≡ true → Shows tail (line_of c lock) → Shows tail (line_of (effect image c e) lock)

-- after a whole order the tail of the queue represents the machine's queue
abbrev pub OrderTie : Type 0
OrderTie = (image : Shown) (limits : Limits) (c : Core) (threads lock : ℕ) (beats : List Beat) → GoTogether image limits c threads lock beats → Shows (queue_after (calls_in beats)).tail (line_of (core_after image c lock beats) lock)

-- the threads of the machine's queue are those of the turns in it
abbrev pub TurnsTie : Type 0
TurnsTie = (image : Shown) (limits : Limits) (c : Core) (threads lock : ℕ) (beats : List Beat) → GoTogether image limits c threads lock beats → line_of (core_after image c lock beats) lock ≡ map (λ (u : Turn). u.thread) (turns_in lock beats)

-- if no turn entered twice, `next` of the first turn answers the second thread's, to which Adopt or Grant passes on
abbrev pub NextTie : Type 0
NextTie = (image : Shown) (limits : Limits) (c : Core) (threads lock w : ℕ) (m : Made) (before : List Beat) → GoTogether image limits c threads lock (Call w m ∷ before) → IsOnce (entries_of (calls_in before))
    → (u x : Turn) → m.call ≡ Did_ask u (Some x) → get_elem? (turns_in lock before) 0 ≡ some u → is_second (line_of (core_after image c lock before) lock) x.thread ≡ true
