-- Simulation of each operation of a hall by the abstract machine: by events, or by none.
use Rattle.std.specs.Prelude.{◌≡◌, ◌⊎◌, ℕ, ◌+◌, ◌<◌, Bool, true, false, ◌==◌, List, [], ◌∷◌, ◌++◌, replicate, slice_index, is_some, Some, None}
use Rattle.tc_journal.specs.declared.block.End.{End}
use Rattle.tc_journal.specs.declared.block.End.TheVariants.{Slept}
use Rattle.tc_segment.specs.View.{LockView}
use Rattle.tc_context.specs.View.{PackageView}
use Rattle.tc_core.specs.Core.{Core, Limits, is_free_lock, is_loose, is_slept, is_waiting}
use Rattle.tc_core.specs.declared.place.LockPlace.{LockPlace}
use Rattle.tc_core.specs.declared.place.LockPlace.TheVariants.{With, Granted, Loose}
use Rattle.tc_core.specs.declared.place.LockPlace.TheVariants as place
use Rattle.tc_core.specs.Events.{is_enabled, is_thread, is_lock, has_thread, has_lock, runs}
use Rattle.tc_core.specs.Stories.{AreEnabled, after_all}
use Rattle.tc_core.specs.declared.event.Event.{Event}
use Rattle.tc_core.specs.declared.event.Event.TheVariants.{Claim, Turn, Commit, Take, Ship, Adopt, Grant, Free, HandBack, Park, Finish}
use Rattle.tc_hall.specs.declared.board.Knows.{Knows}
use Rattle.tc_hall.specs.declared.board.HallTerms.{HallTerms}
use Rattle.tc_hall.specs.declared.place.TheConstants.{READY, PARKED, WAITING, OUT}
use Rattle.tc_hall.specs.declared.place.Place.{Place}
use Rattle.tc_hall.specs.declared.place.Place.TheVariants.{Ready, Waiting, Parked, Done}
use Rattle.tc_hall.specs.Places.{slot_word}
use Rattle.tc_hall.specs.Rule.{threads, locks, HasLock, KeptHall, locked_in}
use Rattle.tc_hall.specs.Effects.{Hall}
use Rattle.tc_hall.specs.Order.{Operation, claim, take, miss, commit, put, free, line, look, stop, stopped, reach, lay, split, join, Made, MayCome, after_operation}
use Rattle.tc_hall.specs.Outline.{outline, IsBetween}
use Rattle.tc_hall.specs.Shown.{IsShown, last_end}

-- the abstract machine of the hall's guest
abbrev pub machine_limits : HallTerms → Limits
machine_limits k = record { workers = k.workers; batch = k.limit }

abbrev pub may_come : HallTerms → Core → Event → Bool
may_come k c e = is_enabled k.image.value (machine_limits k) c e

abbrev pub after_events : HallTerms → Core → List Event → Core
after_events k c events = after_all k.image.value c events

-- the worker has the thread; the lock
abbrev pub at_worker : HallTerms → Core → ℕ → ℕ → Bool
at_worker k c w t = has_thread k.image.value (machine_limits k) c w t

abbrev pub loose_at : HallTerms → Core → ℕ → ℕ → Bool
loose_at k c w lock = has_lock k.image.value (machine_limits k) c w lock

-- abstraction relation: the hall represents the machine's state, in which no thread is inside a block
pub record Shows (k : HallTerms) (s : Hall) (c : Core) : Type 0 where
  pub between : IsBetween c
  pub shown : IsShown k s (outline c)

-- ---- the events that an operation is

-- the lock is loose at some worker
abbrev pub IsLooseIn : ℕ → Core → Type 0
IsLooseIn lock c = (u : ℕ) × (is_loose (c.custody lock).place u ≡ true)

-- the thread has the lock, or was granted it
abbrev pub is_with : LockPlace → ℕ → Bool
is_with place.Free t = false
is_with (With u) t = u == t
is_with (Granted u) t = u == t
is_with (Loose w) t = false

-- the locks that the thread has or was granted are those in its package
abbrev pub AreInside : HallTerms → PackageView → Core → Type 0
AreInside k q c = (i : ℕ) → i < locks k → is_with (c.custody i).place q.context.thread ≡ is_some (locked_in q i)

abbrev pub turns_by : ℕ → ℕ → ℕ → List Event
turns_by w t n = replicate n (Turn w t)

-- a package is claimed while it is ready or parked: Claim; or, by a pass that has the lock for
-- which it waits, if that is loose: Adopt, or Grant and Claim
pub data IsClaimed (k : HallTerms) (s : Hall) (c : Core) (v : Knows) (t : ℕ) : List Event → Type 0 where
  alone : (slice_index s.words (slot_word t) ≡ READY) ⊎ (slice_index s.words (slot_word t) ≡ PARKED) → IsClaimed k s c v t (Claim v.worker t ∷ [])
  adopted : (lock : ℕ) (l : LockView) → slice_index s.words (slot_word t) ≡ WAITING + lock → HasLock v lock l → IsLooseIn lock c → IsClaimed k s c v t (Adopt v.worker t lock ∷ [])
  granted : (lock : ℕ) (l : LockView) → slice_index s.words (slot_word t) ≡ WAITING + lock → HasLock v lock l → IsLooseIn lock c → IsClaimed k s c v t (Grant v.worker t lock ∷ Claim v.worker t ∷ [])

-- a package is put with the locks that its thread has or was granted, and as parked only after a sleep
abbrev pub IsPut : HallTerms → Core → Knows → PackageView → Place → List Event → Type 0
IsPut k c v q Ready es = AreInside k q c × (es ≡ HandBack v.worker q.context.thread ∷ [])
IsPut k c v q (Waiting lock) es = AreInside k q c × (es ≡ Ship v.worker q.context.thread lock ∷ [])
IsPut k c v q Parked es = AreInside k q c × (last_end q.log ≡ Some Slept) × (es ≡ Park v.worker q.context.thread ∷ [])
IsPut k c v q Done es = AreInside k q c × (es ≡ Finish v.worker q.context.thread ∷ [])

-- the operation of a pass whose state is v is these events
abbrev pub IsOf : HallTerms → Hall → Core → Knows → Operation → List Event → Type 0
IsOf k s c v (claim t word q) es = IsClaimed k s c v t es
IsOf k s c v (commit stamp b q) es = es ≡ turns_by v.worker q.context.thread b.turns ++ Commit v.worker q.context.thread ∷ []
IsOf k s c v (put q place) es = IsPut k c v q place es
-- a lock is taken for a thread that is at the pass's worker
IsOf k s c v (take i l) es = (t : ℕ) × (t < threads k) × (slice_index s.words (slot_word t) ≡ OUT + v.worker) × (es ≡ Take v.worker t i ∷ [])
IsOf k s c v (free l) es = IsLooseIn l.number c × (es ≡ Free v.worker l.number ∷ [])
IsOf k s c v (miss word wanted found) es = es ≡ []
IsOf k s c v (look t found) es = es ≡ []
IsOf k s c v stop es = es ≡ []
IsOf k s c v (line i d) es = es ≡ []
IsOf k s c v (stopped found) es = es ≡ []
IsOf k s c v (reach slot) es = es ≡ []
IsOf k s c v (lay slot) es = es ≡ []
IsOf k s c v split es = es ≡ []
IsOf k s c v (join other w) es = es ≡ []

-- ---- what its events require of places, of statuses and of the ends of blocks

-- the worker has the lock loose, and the thread waits for it
abbrev pub CanPass : HallTerms → ℕ → ℕ → ℕ → Core → Type 0
CanPass k w t lock c = (loose_at k c w lock ≡ true) × (is_thread k.image.value t ≡ true) × (is_waiting (c.course t).place lock ≡ true)

abbrev pub Asks : HallTerms → Core → Event → Type 0
Asks k c (Claim w t) = may_come k c (Claim w t) ≡ true
Asks k c (Adopt w t lock) = CanPass k w t lock c
Asks k c (Grant w t lock) = CanPass k w t lock c
Asks k c (HandBack w t) = (at_worker k c w t ≡ true) × (runs c t ≡ true)
Asks k c (Ship w t lock) = (at_worker k c w t ≡ true) × (is_lock k.image.value lock ≡ true)
Asks k c (Park w t) = (at_worker k c w t ≡ true) × (runs c t ≡ true) × (is_slept (c.course t).last ≡ true)
Asks k c (Finish w t) = may_come k c (Finish w t) ≡ true
Asks k c (Take w t lock) = (at_worker k c w t ≡ true) × (is_lock k.image.value lock ≡ true) × (is_free_lock (c.custody lock).place ≡ true)
Asks k c (Free w lock) = loose_at k c w lock ≡ true
Asks k c e = Unit {0}

-- from c on the thread takes n steps, at the worker, and the last of them ends a block so
pub record RunsThrough (k : HallTerms) (w t n : ℕ) (end : End) (c : Core) : Type 0 where
  pub here : (j : ℕ) → j < n + 1 → at_worker k (after_events k c (turns_by w t j)) w t ≡ true
  pub runs : (j : ℕ) → j < n → runs (after_events k c (turns_by w t j)) t ≡ true
  pub goes_on : (j : ℕ) → j < n → ((after_events k c (turns_by w t j)).course t).ended ≡ None
  pub ends : ((after_events k c (turns_by w t n)).course t).ended ≡ Some end

-- if they are required from c on
abbrev pub AreAsked : HallTerms → Core → Knows → Operation → List Event → Type 0
AreAsked k c v (commit stamp b q) es = RunsThrough k v.worker q.context.thread b.turns b.end c
AreAsked k c v o [] = Unit {0}
AreAsked k c v o (e ∷ es) = Asks k c e

-- ---- the theorem

-- the operation preserves the invariant; and for each state that the hall represents, what the
-- events require holds, and if they are enabled, the hall represents the state after them
pub record Tied (k : HallTerms) (s : Hall) (m : Made) : Type 0 where
  pub kept : KeptHall k (after_operation k s m.pass m.knew m.operation)
  pub asks : (c : Core) (es : List Event) → Shows k s c → IsOf k s c m.knew m.operation es → AreAsked k c m.knew m.operation es
  pub shows : (c : Core) (es : List Event) → Shows k s c → IsOf k s c m.knew m.operation es → AreEnabled k.image.value (machine_limits k) c es → Shows k (after_operation k s m.pass m.knew m.operation) (after_events k c es)

-- in every state that satisfies the invariant, for every operation that may come there
abbrev pub Ties : Type 0
Ties = (k : HallTerms) (s : Hall) (m : Made) → KeptHall k s → MayCome k s m → Tied k s m
