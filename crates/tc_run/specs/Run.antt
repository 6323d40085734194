-- A run of a hall with lines is a run of the abstract machine: all operations of all passes, in their one order, up to the first
-- stop, are enabled events, which write the history.
use Rattle.std.specs.Prelude.{◌≡◌, ℕ, ◌<◌, ◌==◌, Bool, true, false, if◌then◌else◌, List, [], ◌∷◌, ◌++◌, map, Option, Some, None}
use Rattle.tc_queue.specs.declared.turn.Turn.{Turn}
use Rattle.tc_queue.specs.declared.turn.Leave.TheVariants.{Left}
use Rattle.tc_queue.specs.declared.turn.QueueCall.{QueueCall}
use Rattle.tc_queue.specs.declared.turn.QueueCall.TheVariants.{Enter as Did_enter, Leave as Did_leave}
use Rattle.tc_core.specs.Core.{Core}
use Rattle.tc_core.specs.Events.{adopts}
use Rattle.tc_core.specs.Stories.{AreEnabled}
use Rattle.tc_core.specs.declared.event.Event.{Event}
use Rattle.tc_core.specs.declared.event.Event.TheVariants.{Claim, Commit, Take, Ship, Adopt, Grant, Free, HandBack, Park, Finish}
use Rattle.tc_told.specs.Written.{history_of}
use Rattle.tc_hall.specs.declared.board.HallTerms.{HallTerms}
use Rattle.tc_hall.specs.declared.board.Knows.{Knows}
use Rattle.tc_hall.specs.declared.place.Place.{Place}
use Rattle.tc_hall.specs.declared.place.Place.TheVariants.{Ready, Waiting, Parked, Done}
use Rattle.tc_hall.specs.Places.{place_of}
use Rattle.tc_hall.specs.Rule.{locks}
use Rattle.tc_hall.specs.Standing.{Standing, entered, followed, standing_of}
use Rattle.tc_hall.specs.Effects.{Hall}
pub use Rattle.tc_hall.specs.Closing.{before_stop, has_stop, is_stop, sealed_by, sealed_in}
use Rattle.tc_hall.specs.Order.{Operation, claim, take, commit, put, free, line, Made, IsOrdered, hall_after, plain_of}
use Rattle.tc_hall.specs.Ties.{Shows, machine_limits, turns_by}
use Rattle.tc_hall.specs.Lift.{Beat, operation, enter, leave, core_after, events_of, start_of}

-- ---- the events of an operation of a pass that is v, where the machine is at c

abbrev pub claim_events : HallTerms → Core → ℕ → ℕ → Place → List Event
claim_events k c w t (Waiting lock) = if adopts (machine_limits k) c lock then Adopt w t lock ∷ [] else Grant w t lock ∷ Claim w t ∷ []
claim_events k c w t place = Claim w t ∷ []

abbrev pub put_event : ℕ → ℕ → Place → Event
put_event w t Ready = HandBack w t
put_event w t (Waiting lock) = Ship w t lock
put_event w t Parked = Park w t
put_event w t Done = Finish w t

abbrev pub take_events : ℕ → ℕ → Standing → List Event
take_events w i (entered u None) = Take w u.thread i ∷ []
take_events w i s = []

-- those of calls on lines are beats of their own
abbrev pub events_at : HallTerms → Core → Knows → Operation → List Event
events_at k c v (claim t word q) = claim_events k c v.worker t (place_of word)
events_at k c v (take i l) = take_events v.worker i (standing_of i v.calls)
events_at k c v (commit stamp b q) = turns_by v.worker q.context.thread b.turns ++ Commit v.worker q.context.thread ∷ []
events_at k c v (put q place) = put_event v.worker q.context.thread place ∷ []
events_at k c v (free l) = Free v.worker l.number ∷ []
events_at k c v o = []

abbrev pub beat_of : ℕ → ℕ → QueueCall → List Beat
beat_of w i (Did_enter u a) = enter w u.thread i ∷ []
beat_of w i (Did_leave u Left) = leave w i ∷ []
beat_of w i c = []

abbrev pub line_beats : ℕ → Operation → List Beat
line_beats w (line i c) = beat_of w i c
line_beats w o = []

-- the order as beats, the latest first
abbrev pub beats_of : HallTerms → List Made → List Beat
beats_of k [] = []
beats_of k (m ∷ before) = line_beats m.knew.worker m.operation ++ operation m (events_at k (core_after k (beats_of k before)) m.knew m.operation) ∷ beats_of k before

abbrev pub events_in : HallTerms → List Made → List Event
events_in k order = events_of (beats_of k order)

abbrev pub core_in : HallTerms → List Made → Core
core_in k order = core_after k (beats_of k order)

-- ---- the turns of a line

abbrev pub threads_of : List Turn → List ℕ
threads_of us = map (λ (u : Turn). u.thread) us

abbrev pub last_turn_of : List Turn → Option Turn
last_turn_of [] = None
last_turn_of (u ∷ []) = Some u
last_turn_of (u ∷ v ∷ us) = last_turn_of (v ∷ us)

abbrev pub without_first : List Turn → List Turn
without_first [] = []
without_first (u ∷ us) = us

abbrev pub waits_at : ℕ → Place → Bool
waits_at i (Waiting j) = j == i
waits_at i place = false

abbrev pub queue_past : QueueCall → List Turn → List Turn
queue_past (Did_enter u a) us = us ++ u ∷ []
queue_past (Did_leave u Left) us = []
queue_past c us = us

abbrev pub line_past : ℕ → Operation → List Turn → List Turn
line_past i (line j c) us = if j == i then queue_past c us else us
line_past i (claim t word q) us = if waits_at i (place_of word) then without_first us else us
line_past i o us = us

abbrev pub line_in : ℕ → List Made → List Turn
line_in i [] = []
line_in i (m ∷ before) = line_past i m.operation (line_in i before)

-- the turns that entered it
abbrev pub entry_of : QueueCall → List Turn
entry_of (Did_enter u a) = u ∷ []
entry_of c = []

abbrev pub entered_by : ℕ → Operation → List Turn
entered_by i (line j c) = if j == i then entry_of c else []
entered_by i o = []

abbrev pub entered_in : ℕ → List Made → List Turn
entered_in i [] = []
entered_in i (m ∷ before) = entered_in i before ++ entered_by i m.operation

-- the turns that the lock was given to: at a take, and at a claim of one that waited
abbrev pub given_to : Standing → List Turn
given_to (entered u None) = u ∷ []
given_to (followed own u) = u ∷ []
given_to s = []

abbrev pub given_by : ℕ → Knows → Operation → List Turn
given_by i v (take j l) = if j == i then given_to (standing_of i v.calls) else []
given_by i v (claim t word q) = if waits_at i (place_of word) then given_to (standing_of i v.calls) else []
given_by i v o = []

abbrev pub given_in : ℕ → List Made → List Turn
given_in i [] = []
given_in i (m ∷ before) = given_in i before ++ given_by i m.knew m.operation

-- the first of these turns
abbrev pub AreFirst : List Turn → List Turn → Type 0
AreFirst us vs = (rest : List Turn) × (us ++ rest ≡ vs)

-- ---- the law

-- the operations are enabled events, after which the hall shows the machine, and each tail the last turn of the machine's line;
-- a lock is given to the turns that entered its line, in the order of entry; and the events write the blocks that were sealed
pub record IsRun (k : HallTerms) (first : Hall) (order : List Made) : Type 0 where
  pub enabled : AreEnabled k.image.value (machine_limits k) (start_of k) (events_in k order)
  pub shows : Shows k (hall_after k first order) (core_in k order)
  pub lines : (i : ℕ) → i < locks k → ((core_in k order).custody i).line ≡ threads_of (line_in i order)
  pub tails : (i : ℕ) → i < locks k → (plain_of i order).tail ≡ last_turn_of (line_in i order)
  pub served : (i : ℕ) → i < locks k → AreFirst (given_in i order) (entered_in i order)
  pub writes : history_of k.image.value k.fuel (events_in k order) ≡ sealed_in order

abbrev pub RunsAsMachine : Type 0
RunsAsMachine = (k : HallTerms) (s : Hall) (d : IsOrdered k s) → k.lined ≡ true → IsRun k d.first (before_stop d.order)
