-- Simulation of whole runs: the operations of a hall in their order, with events of waiting queues
-- inserted, are a list of enabled events of the abstract machine, if the queues allow it.
use Rattle.std.specs.Prelude.{◌≡◌, ℕ, ◌+◌, ◌<◌, true, false, List, [], ◌∷◌, ◌++◌, slice_index, Some}
use mathlib.Core.Option.{some}
use lib.ListN.{get_elem?}
use Rattle.tc_segment.specs.View.{LockView}
use Rattle.tc_turn.specs.Turn.{next_lock}
use Rattle.tc_core.specs.Core.{Core, first_core, is_granted}
use Rattle.tc_core.specs.Lines.{is_in_line, is_first, is_second, is_single}
use Rattle.tc_core.specs.Events.{runs, has_entered, adopts, effect}
use Rattle.tc_core.specs.Stories.{AreEnabled}
use Rattle.tc_core.specs.declared.event.Event.{Event}
use Rattle.tc_core.specs.declared.event.Event.TheVariants.{Turn, Enter, Take, Ship, Adopt, Grant, Leave, Free, HandBack, Park}
use Rattle.tc_hall.specs.declared.board.Knows.{Knows}
use Rattle.tc_hall.specs.declared.board.HallTerms.{HallTerms}
use Rattle.tc_hall.specs.declared.place.TheConstants.{OUT}
use Rattle.tc_hall.specs.Places.{slot_word}
use Rattle.tc_hall.specs.Rule.{threads, HasLock}
use Rattle.tc_hall.specs.Effects.{Hall}
use Rattle.tc_hall.specs.Order.{Made, MayCome, after_operation, IsOpening}
use Rattle.tc_hall.specs.Ties.{machine_limits, after_events, IsLooseIn, IsOf, Shows}

-- ---- the conditions on queues, grants and the batch rule, which no outline has

-- not all have left the lock, and the thread is the next of its queue
abbrev pub IsNext : Core → ℕ → ℕ → Type 0
IsNext c t lock = ((c.custody lock).left ≡ false) × (is_second (c.custody lock).line t ≡ true)

-- the thread is not in the queue of the lock that its next step takes, or was granted that lock
abbrev pub HasNotEntered : HallTerms → Core → ℕ → Type 0
HasNotEntered k c t = has_entered (next_lock k.image.value (c.machine.threads t)) t c ≡ false

-- the conditions on queues, grants and the batch rule for an event
abbrev pub LinesAllow : HallTerms → Core → Event → Type 0
-- the lock that a step takes was granted to its thread
LinesAllow k c (Turn w t) = (lock : ℕ) → next_lock k.image.value (c.machine.threads t) ≡ Some lock → is_granted (c.custody lock).place t ≡ true
LinesAllow k c (Enter w t lock) = is_in_line (c.custody lock).line t ≡ false
LinesAllow k c (Take w t lock) = is_first (c.custody lock).line t ≡ true
LinesAllow k c (Ship w t lock) = (is_in_line (c.custody lock).line t ≡ true) × (is_first (c.custody lock).line t ≡ false)
-- the batch rule says which of the two it is
LinesAllow k c (Adopt w t lock) = IsNext c t lock × (adopts (machine_limits k) c lock ≡ true)
LinesAllow k c (Grant w t lock) = IsNext c t lock × (adopts (machine_limits k) c lock ≡ false)
LinesAllow k c (Leave w lock) = ((c.custody lock).left ≡ false) × (is_single (c.custody lock).line ≡ true)
LinesAllow k c (Free w lock) = (c.custody lock).left ≡ true
LinesAllow k c (HandBack w t) = HasNotEntered k c t
LinesAllow k c (Park w t) = HasNotEntered k c t
LinesAllow k c e = Unit {0}

-- and for each event of a list
abbrev pub LinesAllowAll : HallTerms → Core → List Event → Type 0
LinesAllowAll k c [] = Unit {0}
LinesAllowAll k c (e ∷ es) = LinesAllow k c e × LinesAllowAll k (effect k.image.value c e) es

-- an operation of the hall with its events, or an event of a queue, which a hall does not represent
pub data Beat : Type 0 where
  operation : Made → List Event → Beat
  enter : ℕ → ℕ → ℕ → Beat
  leave : ℕ → ℕ → Beat

-- ---- a list of beats, the latest first

abbrev pub events_of : List Beat → List Event
events_of [] = []
events_of (operation m es ∷ before) = events_of before ++ es
events_of (enter w t lock ∷ before) = events_of before ++ Enter w t lock ∷ []
events_of (leave w lock ∷ before) = events_of before ++ Leave w lock ∷ []

abbrev pub hall_of : HallTerms → Hall → List Beat → Hall
hall_of k s [] = s
hall_of k s (operation m es ∷ before) = after_operation k (hall_of k s before) m.pass m.knew m.operation
hall_of k s (enter w t lock ∷ before) = hall_of k s before
hall_of k s (leave w lock ∷ before) = hall_of k s before

-- the machine at the start, and after the events
abbrev pub start_of : HallTerms → Core
start_of k = first_core k.image.value k.fuel

abbrev pub core_after : HallTerms → List Beat → Core
core_after k beats = after_events k (start_of k) (events_of beats)

-- ---- where a beat may come

-- the thread is out with the worker and runs, and its next step takes the lock
pub record IsAtLock (k : HallTerms) (s : Hall) (c : Core) (w t lock : ℕ) : Type 0 where
  pub below : t < threads k
  pub word : slice_index s.words (slot_word t) ≡ OUT + w
  pub runs : runs c t ≡ true
  pub next : next_lock k.image.value (c.machine.threads t) ≡ Some lock

-- a pass of the worker has the lock out, and it is loose
pub record HasLoose (s : Hall) (c : Core) (w lock : ℕ) : Type 0 where
  pub id : ℕ
  pub view : Knows
  pub pass : get_elem? s.views id ≡ some view
  pub worker : view.worker ≡ w
  pub state : LockView
  pub has : HasLock view lock state
  pub loose : IsLooseIn lock c

abbrev pub MayLift : HallTerms → Hall → List Beat → Type 0
MayLift k s [] = Unit {0}
-- the operation may come in the hall, is these events, and the queues allow them
MayLift k s (operation m es ∷ before) =
    MayCome k (hall_of k s before) m × IsOf k (hall_of k s before) (core_after k before) m.knew m.operation es
    × LinesAllowAll k (core_after k before) es × MayLift k s before
MayLift k s (enter w t lock ∷ before) =
    IsAtLock k (hall_of k s before) (core_after k before) w t lock × LinesAllow k (core_after k before) (Enter w t lock) × MayLift k s before
MayLift k s (leave w lock ∷ before) =
    HasLoose (hall_of k s before) (core_after k before) w lock × LinesAllow k (core_after k before) (Leave w lock) × MayLift k s before

-- ---- the theorem

-- a new hall represents the first state of the abstract machine
abbrev pub OpensShown : Type 0
OpensShown = (k : HallTerms) (s : Hall) → IsOpening k s → Shows k s (start_of k)

-- all events are enabled, and after them the hall represents the machine
pub record IsLifted (k : HallTerms) (s : Hall) (beats : List Beat) : Type 0 where
  pub enabled : AreEnabled k.image.value (machine_limits k) (start_of k) (events_of beats)
  pub shows : Shows k (hall_of k s beats) (core_after k beats)

abbrev pub Lifts : Type 0
Lifts = (k : HallTerms) (s : Hall) → IsOpening k s → (beats : List Beat) → MayLift k s beats → IsLifted k s beats
