-- Lists of enabled events, and their projections.
use Rattle.std.specs.Prelude.{◌≡◌, ℕ, ◌+◌, ◌≤◌, Bool, true, false, ◌==◌, if◌then◌else◌, List, [], ◌∷◌, ◌++◌}
use Rattle.tc_elf.specs.Shown.{Shown}
use Rattle.tc_turn.specs.Turn.{next_lock}
use Rattle.tc_core.specs.declared.event.Event.{Event}
use Rattle.tc_core.specs.declared.event.Event.TheVariants.{Turn, Commit, Enter, Take, Adopt, Grant}
use Rattle.tc_core.specs.Core.{Core, Limits, first_core, is_number}
use Rattle.tc_core.specs.Events.{is_enabled, effect}

-- each event is enabled at its turn in the list
abbrev pub AreEnabled : Shown → Limits → Core → List Event → Type 0
AreEnabled image limits c [] = Unit {0}
AreEnabled image limits c (e ∷ es) = (is_enabled image limits c e ≡ true) × AreEnabled image limits (effect image c e) es

abbrev pub after_all : Shown → Core → List Event → Core
after_all image c [] = c
after_all image c (e ∷ es) = after_all image (effect image c e) es

-- a trace: a list of enabled events of a guest from the start
pub record Story : Type 0 where
  pub image : Shown
  pub limits : Limits
  pub fuel : ℕ
  pub events : List Event
  pub enabled : AreEnabled image limits (first_core image fuel) events

-- the state at the end of it
abbrev pub last_core : Story → Core
last_core s = after_all s.image (first_core s.image s.fuel) s.events

-- ---- steps and blocks

abbrev pub turn_of : Event → List ℕ
turn_of (Turn w t) = t ∷ []
turn_of _ = []

-- the threads of the Turn events
abbrev pub turns_of : List Event → List ℕ
turns_of [] = []
turns_of (e ∷ es) = turn_of e ++ turns_of es

-- how many steps each thread has in its present block, by the events
abbrev pub counts_on : (ℕ → ℕ) → Event → ℕ → ℕ
counts_on counts (Turn w t) = λ k. if k == t then counts t + 1 else counts k
counts_on counts (Commit w t) = λ k. if k == t then 0 else counts k
counts_on counts _ = counts

abbrev pub block_of : (ℕ → ℕ) → Event → List (ℕ × ℕ)
block_of counts (Commit w t) = (t, counts t) ∷ []
block_of counts _ = []

abbrev pub blocks_from : (ℕ → ℕ) → List Event → List (ℕ × ℕ)
blocks_from counts [] = []
blocks_from counts (e ∷ es) = block_of counts e ++ blocks_from (counts_on counts e) es

-- for each Commit event its thread, and the number of that thread's Turn events since its Commit before
abbrev pub blocks_of : List Event → List (ℕ × ℕ)
blocks_of events = blocks_from (λ t. 0) events

-- ---- the waiting queue of a lock

-- the thread of a LOCK step of the lock
abbrev pub lock_by : Shown → ℕ → Core → Event → List ℕ
lock_by image lock c (Turn w t) = if is_number (next_lock image (c.machine.threads t)) lock then t ∷ [] else []
lock_by image lock c _ = []

abbrev pub locks_by : Shown → ℕ → Core → List Event → List ℕ
locks_by image lock c [] = []
locks_by image lock c (e ∷ es) = lock_by image lock c e ++ locks_by image lock (effect image c e) es

-- the threads of the LOCK steps of the lock
abbrev pub locks_of : ℕ → Story → List ℕ
locks_of lock s = locks_by s.image lock (first_core s.image s.fuel) s.events

abbrev pub enter_of : ℕ → Event → List ℕ
enter_of lock (Enter w t k) = if k == lock then t ∷ [] else []
enter_of lock _ = []

-- the threads of the Enter events of the lock
abbrev pub enters_of : ℕ → List Event → List ℕ
enters_of lock [] = []
enters_of lock (e ∷ es) = enter_of lock e ++ enters_of lock es

abbrev pub grant_of : ℕ → Event → List ℕ
grant_of lock (Take w t k) = if k == lock then t ∷ [] else []
grant_of lock (Adopt w t k) = if k == lock then t ∷ [] else []
grant_of lock (Grant w t k) = if k == lock then t ∷ [] else []
grant_of lock _ = []

-- the threads of the Take, Adopt and Grant events of the lock
abbrev pub grants_of : ℕ → List Event → List ℕ
grants_of lock [] = []
grants_of lock (e ∷ es) = grant_of lock e ++ grants_of lock es

-- ---- the batch

-- the event is a Take or a Grant of the lock
abbrev pub begins_batch : ℕ → Event → Bool
begins_batch lock (Take w t k) = k == lock
begins_batch lock (Grant w t k) = k == lock
begins_batch lock _ = false

abbrev pub is_adopt : ℕ → Event → Bool
is_adopt lock (Adopt w t k) = k == lock
is_adopt lock _ = false

-- how many Adopt events of the lock come before its next Take or Grant event, or before the end
abbrev pub adopts_ahead : ℕ → List Event → ℕ
adopts_ahead lock [] = 0
adopts_ahead lock (e ∷ es) =
    if begins_batch lock e then 0 else (if is_adopt lock e then 1 else 0) + adopts_ahead lock es

-- after each Take or Grant event of the lock at most so many Adopt events of it come before the next one
abbrev pub KeepsBatch : ℕ → ℕ → List Event → Type 0
KeepsBatch lock limit [] = Unit {0}
KeepsBatch lock limit (e ∷ es) = (begins_batch lock e ≡ true → adopts_ahead lock es ≤ limit) × KeepsBatch lock limit es
