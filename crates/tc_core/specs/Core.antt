-- The state of the abstract machine: the mutex machine, and where threads and locks are between workers.
use Rattle.std.specs.Prelude.{ℕ, Bool, true, false, ◌==◌, if◌then◌else◌, [], Option, Some, None}
use Rattle.tc_elf.specs.Shown.{Shown}
use Rattle.tc_journal.specs.declared.block.End.{End}
use Rattle.tc_journal.specs.declared.block.End.TheVariants.{Slept}
use Rattle.tc_mutex_spec.specs.Machine.{State, start}
pub use Rattle.tc_core.specs.declared.place.ThreadPlace.{ThreadPlace}
pub use Rattle.tc_core.specs.declared.place.ThreadPlace.TheVariants.{Ready, Waiting, Parked, Done, At}
pub use Rattle.tc_core.specs.declared.place.LockPlace.{LockPlace}
pub use Rattle.tc_core.specs.declared.place.LockPlace.TheVariants.{With, Granted, Loose}
use Rattle.tc_core.specs.declared.place.LockPlace.TheVariants as place
pub use Rattle.tc_core.specs.declared.place.Course.{Course}
pub use Rattle.tc_core.specs.declared.place.Custody.{Custody}
pub use Rattle.tc_core.specs.declared.place.Release.{Release}

-- threads and locks as in the mutex machine; the course of each thread, and the custody of each lock
pub record Core : Type 0 where
  pub machine : State
  pub course : ℕ → Course
  pub custody : ℕ → Custody

-- the number of workers, and the greatest number of consecutive adopted sections of a lock
pub record Limits : Type 0 where
  pub workers : ℕ
  pub batch : ℕ

-- ---- at the start

abbrev pub first_course : Course
first_course = record { place = Ready; turns = 0; held = 0; ended = None; last = None }

abbrev pub first_custody : Custody
first_custody = record { place = place.Free; line = []; left = false; run = 0; last = None }

abbrev pub first_core : Shown → ℕ → Core
first_core image fuel = record { machine = start image fuel; course = λ t. first_course; custody = λ k. first_custody }

-- ---- where a thread is

abbrev pub is_at : ThreadPlace → ℕ → Bool
is_at (At v) w = v == w
is_at _ w = false

-- a worker may take it
abbrev pub is_claimable : ThreadPlace → Bool
is_claimable Ready = true
is_claimable Parked = true
is_claimable _ = false

abbrev pub is_waiting : ThreadPlace → ℕ → Bool
is_waiting (Waiting k) lock = k == lock
is_waiting _ lock = false

abbrev pub is_slept : Option End → Bool
is_slept (Some Slept) = true
is_slept _ = false

-- ---- where a lock is

abbrev pub is_free_lock : LockPlace → Bool
is_free_lock place.Free = true
is_free_lock _ = false

abbrev pub is_granted : LockPlace → ℕ → Bool
is_granted (Granted u) t = u == t
is_granted _ t = false

abbrev pub is_loose : LockPlace → ℕ → Bool
is_loose (Loose v) w = v == w
is_loose _ w = false

-- the thread that has a lock
abbrev pub with_of : LockPlace → Option ℕ
with_of (With t) = Some t
with_of _ = None

abbrev pub is_number : Option ℕ → ℕ → Bool
is_number None n = false
is_number (Some m) n = m == n

-- ---- one thread or one lock changed

abbrev pub with_course : Core → ℕ → Course → Core
with_course c t x = record c { course = λ k. if k == t then x else c.course k }

abbrev pub with_custody : Core → ℕ → Custody → Core
with_custody c lock x = record c { custody = λ k. if k == lock then x else c.custody k }

-- the thread at a new place
abbrev pub with_place : Core → ℕ → ThreadPlace → Core
with_place c t at = with_course c t (record (c.course t) { place = at })
