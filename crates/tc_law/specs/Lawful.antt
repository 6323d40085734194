-- The invariant over a history, the packages of all threads and the states of all locks, each as of its last commit.
use Rattle.std.specs.Prelude.{◌≡◌, ℕ, ◌+◌, ◌*◌, ◌≤◌, List, [], ◌∷◌, length, set, Option, Some, None, if◌then◌else◌}
use Rattle.std.specs.List.{sum_by}
use mathlib.Core.Option.{some}
use lib.ListN.{get_elem?}
use Rattle.tc_isa.specs.declared.limits.TheConstants.{MAX_FUEL}
use Rattle.tc_elf.specs.Shown.{Shown}
use Rattle.tc_elf.specs.declared.limits.TheConstants.{MAX_THREADS}
use Rattle.tc_journal.specs.Batch.{Obeys}
use Rattle.tc_journal.specs.History.{IsHistory, of_lock}
use Rattle.tc_journal.specs.declared.block.Block.{Block}
use Rattle.tc_turn.specs.Turn.{Thread, is_running}
use Rattle.tc_mutex_spec.specs.Blocks.{Tells, end_after}
use Rattle.tc_segment.specs.View.{LockView, IsStrict, kept, fresh_state}
use Rattle.tc_context.specs.Locks.{lock_in}
use Rattle.tc_context.specs.Whole.{thread_in}
use Rattle.tc_context.specs.View.{PackageView, IsFresh, bare}
use Rattle.tc_law.specs.History.{ThreadFollows, StateFollows}

-- the item with this index
abbrev pub StandsAt : {A : Type 0} → List A → ℕ → A → Type 0
StandsAt xs i x = get_elem? xs i ≡ some x

-- the package of thread t after the history: its thread is as at the history's end, and its log has the thread's blocks
pub record IsPackageAfter (image : Shown) (fuel : ℕ) (h : List Block) (t : ℕ) (p : PackageView) : Type 0 where
  pub follows : ThreadFollows image h (end_after image fuel h) t p
  pub settled : p.pending ≡ None

-- the state of lock k after it: the lock is as at its end, and each of its entries is sealed and is that of a block
pub record IsStateAfter (image : Shown) (fuel limit : ℕ) (h : List Block) (k : ℕ) (l : LockView) : Type 0 where
  pub follows : StateFollows image fuel limit h (end_after image fuel h) k l
  pub opened : l.journal.opened ≡ None
  pub closed : l.journal.closed ≡ None

-- how many blocks a thread can still run: each costs fuel, except the one that finds none and ends the thread
abbrev pub blocks_left : Thread → ℕ
blocks_left d = if is_running d.status then d.fuel + 1 else 0

abbrev pub all_left : List PackageView → ℕ
all_left packages = sum_by (λ p. blocks_left (thread_in p.context)) packages

-- the history is a trace and obeys the batch limit, and the package of each thread and the state of
-- each lock agree with it. They are listed by number
pub record Lawful (image : Shown) (fuel limit : ℕ) (h : List Block) (packages : List PackageView) (states : List LockView) : Type 0 where
  pub history : IsHistory h
  pub tells : Tells image fuel h (end_after image fuel h)
  pub obeys : (k : ℕ) → Obeys k limit (of_lock h k)
  pub all_packages : length packages ≡ length image.entries
  pub all_states : length states ≡ length image.guards
  pub packages_after : (t : ℕ) (p : PackageView) → StandsAt packages t p → IsPackageAfter image fuel h t p
  pub states_after : (k : ℕ) (l : LockView) → StandsAt states k l → IsStateAfter image fuel limit h k l
  pub bound : length h + all_left packages ≤ length image.entries * (fuel + 1)

-- who owns lock k at the history's end
abbrev pub owner_after : Shown → ℕ → List Block → ℕ → Option ℕ
owner_after image fuel h k = ((end_after image fuel h).locks k).owner

-- the limits under which a history stays short
pub record IsLimited (image : Shown) (fuel : ℕ) : Type 0 where
  pub threads : length image.entries ≤ MAX_THREADS
  pub turns : fuel ≤ MAX_FUEL

-- the package without its locks, and each of its locks, are among these
pub record IsAmong (packages : List PackageView) (states : List LockView) (p : PackageView) : Type 0 where
  pub place : StandsAt packages p.context.thread (bare p)
  pub locks : (k : ℕ) (l : LockView) → lock_in p.context.locks k ≡ Some l → StandsAt states k (kept l)

-- with the package at the index of its thread
abbrev pub with_package : PackageView → List PackageView → List PackageView
with_package p packages = set packages p.context.thread (bare p)

abbrev pub kept_or : LockView → Option LockView → LockView
kept_or l None = l
kept_or l (Some new) = kept new

-- with these lock states at their indices
abbrev pub with_states : List (Option LockView) → List LockView → List LockView
with_states [] states = states
with_states (o ∷ slots) [] = []
with_states (o ∷ slots) (l ∷ states) = kept_or l o ∷ with_states slots states

-- in none of these lock states a section was passed on to its own thread
abbrev pub AreStrict : List LockView → Type 0
AreStrict states = (k : ℕ) (l : LockView) → StandsAt states k l → IsStrict l

-- at the start
pub record AreFresh (image : Shown) (fuel limit : ℕ) (packages : List PackageView) (states : List LockView) : Type 0 where
  pub all_packages : length packages ≡ length image.entries
  pub all_states : length states ≡ length image.guards
  pub packages_fresh : (t : ℕ) (p : PackageView) → StandsAt packages t p → IsFresh image t fuel p
  pub states_fresh : (k : ℕ) (l : LockView) → StandsAt states k l → l ≡ fresh_state image k limit
