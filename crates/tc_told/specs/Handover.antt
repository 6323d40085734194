-- What the rules of delegation show of a section, at the index of its first block in a history.
use Rattle.std.specs.Prelude.{◌≡◌, ◌≢◌, ℕ, ◌<◌, ◌==◌, Bool, true, false, List, [], ◌∷◌, ◌++◌, length, slice_get, All, Option, Some, IfSome}
use Rattle.tc_elf.specs.Shown.{Shown}
use Rattle.tc_journal.specs.Batch.{begins, is_adopted, last_of, Obeys, PassesOn}
use Rattle.tc_journal.specs.Handing.{of_worker, Delegates}
use Rattle.tc_journal.specs.History.{IsHistory, of_lock, of_thread}
use Rattle.tc_journal.specs.declared.block.Block.{Block}
use Rattle.tc_journal.specs.declared.block.End.{End}
use Rattle.tc_journal.specs.declared.block.End.TheVariants.{Wants, Unlocked, Slept, Cut, Exit, Fault, Spent}
use Rattle.tc_turn.specs.Turn.{Thread, is_running, next_lock}
use Rattle.tc_mutex_spec.specs.Machine.{State}
use Rattle.tc_mutex_spec.specs.Blocks.{Tells, end_after}
use Rattle.tc_core.specs.Core.{Limits}

-- the history is a trace of ordinary mutexes; by the workers that it names, the blocks of each lock
-- obey the batch limit and pass its sections on to other threads; and it shows delegation
pub record ShowsDelegation (image : Shown) (limits : Limits) (fuel : ℕ) (h : List Block) : Type 0 where
  pub last : State
  pub history : IsHistory h
  pub tells : Tells image fuel h last
  pub workers : All (λ (b : Block). b.worker < limits.workers) h
  pub obeys : (k : ℕ) → k < length image.guards → Obeys k limits.batch (of_lock h k)
  pub passes : (k : ℕ) → k < length image.guards → PassesOn k (of_lock h k)
  pub delegates : Delegates h

-- ---- of a section

abbrev pub first_of : List Block → Option Block
first_of bs = slice_get bs 0

-- the block begins an Adopted section of the lock
abbrev pub BeginsAdopted : ℕ → Block → Type 0
BeginsAdopted lock b = (begins lock b ≡ true) × (is_adopted b.kind ≡ true)

-- the last block of b's worker before b is the lock's last block too: it released the lock, and is of another thread
pub record IsBehindRelease (before : List Block) (lock : ℕ) (b : Block) : Type 0 where
  pub release : Block
  pub last_of_worker : last_of (of_worker before b.worker) ≡ Some release
  pub last_of_lock : last_of (of_lock before lock) ≡ Some release
  pub unlocked : release.end ≡ Unlocked lock
  pub thread : release.thread ≢ b.thread

-- between the block that released the lock, of another thread, and b its worker ran no block, and no block had the lock
pub record FollowsAtOnce (before : List Block) (lock : ℕ) (b : Block) : Type 0 where
  pub sooner : List Block
  pub release : Block
  pub between : List Block
  pub place : before ≡ sooner ++ release ∷ between
  pub unlocked : release.end ≡ Unlocked lock
  pub thread : release.thread ≢ b.thread
  pub no_block : of_worker between b.worker ≡ []
  pub no_holder : of_lock between lock ≡ []

-- the thread goes on, and its next step is a LOCK of this lock that does not fault
abbrev pub IsAtLock : Shown → ℕ → Thread → Type 0
IsAtLock image lock d = (is_running d.status ≡ true) × (next_lock image d ≡ Some lock)

-- a block may end so if its thread's next step is a LOCK of this lock: it wants the lock, or it unlocked one or slept
abbrev pub may_end_at : ℕ → End → Bool
may_end_at lock (Wants k) = k == lock
may_end_at lock (Unlocked k) = true
may_end_at lock Slept = true
may_end_at lock Cut = false
may_end_at lock Exit = false
may_end_at lock (Fault f) = false
may_end_at lock Spent = false

-- after `sooner`, which ends with the last block of b's thread before b, or is empty if there is
-- none, that thread was at its LOCK of the lock, and ran no block until b
pub record HasWaited (image : Shown) (fuel : ℕ) (before : List Block) (lock : ℕ) (b : Block) : Type 0 where
  pub sooner : List Block
  pub later : List Block
  pub place : before ≡ sooner ++ later
  pub last_of_thread : last_of sooner ≡ last_of (of_thread before b.thread)
  pub ended : IfSome (last_of sooner) (λ c. may_end_at lock c.end ≡ true)
  pub at_lock : IsAtLock image lock ((end_after image fuel sooner).threads b.thread)
  pub no_block : of_thread later b.thread ≡ []

-- these blocks are a prefix of the list
pub record BeginsWith (front bs : List Block) : Type 0 where
  pub more : List Block
  pub whole : bs ≡ front ++ more

-- each of the blocks but the last one was cut
abbrev pub IsCutUp : List Block → Type 0
IsCutUp [] = Unit {0}
IsCutUp (b ∷ []) = Unit {0}
IsCutUp (b ∷ c ∷ bs) = (b.end ≡ Cut) × IsCutUp (c ∷ bs)
