-- The program's core as the abstract machine.
use Rattle.std.specs.Prelude.{◌≡◌, ℕ, ◌<◌, ◌≤◌, Bool, true, false, List, [], ◌∷◌, length, slice_get, unwrap_or, nat_eq, Some, None, IfSome, IsTrue}
use Rattle.std.specs.List.{IsDistinct}
use Rattle.tc_isa.specs.declared.limits.TheConstants.{MAX_BATCH, MAX_FUEL, MAX_TURNS, MAX_WORKERS}
use Rattle.tc_elf.specs.Shown.{Shown}
use Rattle.tc_journal.specs.History.{IsEnd}
use Rattle.tc_mutex_spec.specs.Machine.{IsHeldByOwner}
use Rattle.tc_mutex_spec.specs.Slow.{Plain, state_of, Suits}
use Rattle.tc_core.specs.declared.event.Event.{Event}
use Rattle.tc_core.specs.Core.{Core, Limits, Course, Custody, first_core, first_course, first_custody, with_of}
use Rattle.tc_core.specs.Lines.{is_in_line}
use Rattle.tc_core.specs.Events.{is_enabled, effect}

-- threads and locks by number
pub record CoreView : Type 0 where
  pub workers : ℕ
  pub batch : ℕ
  pub plain : Plain
  pub courses : List Course
  pub custodies : List Custody

abbrev pub course_at : List Course → ℕ → Course
course_at courses t = unwrap_or (slice_get courses t) first_course

abbrev pub custody_at : List Custody → ℕ → Custody
custody_at custodies k = unwrap_or (slice_get custodies k) first_custody

-- so many items, each as at the start, like those past their end
pub record AreAtStart {A : Type 0} (first : A) (count : ℕ) (items : List A) : Type 0 where
  pub each : (n : ℕ) → unwrap_or (slice_get items n) first ≡ first
  pub long : length items ≡ count

abbrev pub core_of : CoreView → Core
core_of v = record { machine = state_of v.plain; course = course_at v.courses; custody = custody_at v.custodies }

abbrev pub limits_of : CoreView → Limits
limits_of v = record { workers = v.workers; batch = v.batch }

-- each number is below n
abbrev pub AreBelow : ℕ → List ℕ → Type 0
AreBelow n [] = Unit {0}
AreBelow n (u ∷ us) = (u < n) × AreBelow n us

-- a queue of threads below n, each of them once
pub record IsLine (n : ℕ) (line : List ℕ) : Type 0 where
  pub below : AreBelow n line
  pub once : IsDistinct nat_eq line

-- a block that goes on has fewer steps than a block may have, and its end names a lock that can exist
pub record IsCourse (x : Course) : Type 0 where
  pub turns : x.ended ≡ None → x.turns < MAX_TURNS
  pub end : IfSome x.ended IsEnd

-- the core has the image's threads and locks
pub record HasParts (image : Shown) (v : CoreView) : Type 0 where
  pub plain : Suits image v.plain
  pub courses : length v.courses ≡ length image.entries
  pub custodies : length v.custodies ≡ length image.guards
  pub blocks : (t : ℕ) → IsCourse (course_at v.courses t)
  pub lines : (k : ℕ) → IsLine (length image.entries) (custody_at v.custodies k).line

-- the core has its parts, and this is one of its threads
pub record KnowsThread (image : Shown) (v : CoreView) (t : ℕ) : Type 0 where
  pub parts : HasParts image v
  pub thread : t < length image.entries

-- and one of its locks
pub record KnowsLock (image : Shown) (v : CoreView) (k : ℕ) : Type 0 where
  pub parts : HasParts image v
  pub lock : k < length image.guards

-- thread t, which is not in the queue of the lock, may enter it
pub record MayEnter (image : Shown) (v : CoreView) (t lock : ℕ) : Type 0 where
  pub parts : HasParts image v
  pub thread : t < length image.entries
  pub known : lock < length image.guards
  pub out : is_in_line (custody_at v.custodies lock).line t ≡ false

-- a lock's owner is the thread that holds it, and a thread that holds a lock has it
pub record IsSoundCore (c : Core) : Type 0 where
  pub owners : IsHeldByOwner c.machine
  pub with : (t k : ℕ) → (c.machine.threads t).held k ≡ true → with_of (c.custody k).place ≡ Some t

-- the core is one of the image's
pub record IsCoreOf (image : Shown) (v : CoreView) : Type 0 where
  pub parts : HasParts image v
  pub sound : IsSoundCore (core_of v)

-- a run may begin with this fuel, so many workers and this batch limit
pub record MayBegin (fuel workers batch : ℕ) : Type 0 where
  pub some_fuel : (1 ≤ fuel) × (fuel ≤ MAX_FUEL)
  pub some_workers : (1 ≤ workers) × (workers ≤ MAX_WORKERS)
  pub limit : batch ≤ MAX_BATCH

-- the core of the image at the start
pub record IsFirst (image : Shown) (fuel workers batch : ℕ) (v : CoreView) : Type 0 where
  pub core : core_of v ≡ first_core image fuel
  pub limits : limits_of v ≡ record { workers = workers; batch = batch }
  pub suits : IsCoreOf image v

-- the core is one of the image's, and the event is enabled
pub record MayCome (image : Shown) (v : CoreView) (e : Event) : Type 0 where
  pub core : IsCoreOf image v
  pub enabled : is_enabled image (limits_of v) (core_of v) e ≡ true

-- the answer is this one, and if it is true, this fact holds
pub record IsAnswer (answer wanted : Bool) (fact : Type 0) : Type 0 where
  pub value : answer ≡ wanted
  pub known : IsTrue answer → fact

-- the core is now c: it has the same limits, and the image's threads and locks
pub record Became (image : Shown) (old new : CoreView) (c : Core) : Type 0 where
  pub core : core_of new ≡ c
  pub limits : limits_of new ≡ limits_of old
  pub parts : HasParts image new

-- what a step did: its event was enabled and had its effect, or was not and nothing changed
abbrev pub Stepped : Shown → CoreView → Event → Bool → CoreView → Type 0
Stepped image old e true new =
    (is_enabled image (limits_of old) (core_of old) e ≡ true)
    × (core_of new ≡ effect image (core_of old) e)
    × (limits_of new ≡ limits_of old)
Stepped image old e false new = (is_enabled image (limits_of old) (core_of old) e ≡ false) × (new ≡ old)
