-- Threads and lock states beside a history, and a block appended to it.
use Rattle.std.specs.Prelude.{◌≡◌, ◌≢◌, ℕ, false, List, [], ◌∷◌, ◌++◌, Some}
use Rattle.tc_isa.specs.Sets.{has}
use Rattle.tc_elf.specs.Shown.{Shown}
use Rattle.tc_journal.specs.History.{of_thread}
use Rattle.tc_journal.specs.declared.block.Block.{Block}
use Rattle.tc_turn.specs.Replay.{unowned}
use Rattle.tc_mutex_spec.specs.Machine.{State}
use Rattle.tc_mutex_spec.specs.Blocks.{Runs, Tells}
use Rattle.tc_mutex_spec.specs.Entries.{entries_by}
use Rattle.tc_segment.specs.View.{LockView, lock_of}
use Rattle.tc_context.specs.Locks.{lock_in}
use Rattle.tc_context.specs.Whole.{thread_in}
use Rattle.tc_context.specs.View.{PackageView}

-- the package is that of thread t, which agrees with m, and its log has the thread's blocks
pub record ThreadFollows (image : Shown) (h : List Block) (m : State) (t : ℕ) (p : PackageView) : Type 0 where
  pub of : p.image ≡ image
  pub number : p.context.thread ≡ t
  pub thread : thread_in p.context ≡ m.threads t
  pub log : p.log ≡ of_thread h t

-- the lock state is lock k of m, except the owner, and its sealed entries are those of the history
pub record StateFollows (image : Shown) (fuel limit : ℕ) (h : List Block) (m : State) (k : ℕ) (l : LockView) : Type 0 where
  pub of : l.journal.image ≡ image
  pub number : l.number ≡ k
  pub lock : lock_of l ≡ unowned (m.locks k)
  pub entries : l.journal.sealed ≡ entries_by image fuel h k
  pub bound : l.journal.limit ≡ limit

-- the package and each lock state in it agree with the history h, which leads to m
pub record Follows (image : Shown) (fuel limit : ℕ) (h : List Block) (m : State) (p : PackageView) : Type 0 where
  pub thread : ThreadFollows image h m p.context.thread p
  pub states : (k : ℕ) (l : LockView) → lock_in p.context.locks k ≡ Some l → StateFollows image fuel limit h m k l

-- the history h, which leads to m, with the block b appended leads to `to`: only the block's thread and locks changed
pub record Grows (image : Shown) (fuel : ℕ) (h : List Block) (m : State) (b : Block) (to : State) : Type 0 where
  pub tells : Tells image fuel (h ++ b ∷ []) to
  pub runs : Runs image m b.thread b.turns b.end to
  pub threads : (t : ℕ) → t ≢ b.thread → to.threads t ≡ m.threads t
  pub logs : (t : ℕ) → t ≢ b.thread → of_thread (h ++ b ∷ []) t ≡ of_thread h t
  pub locks : (k : ℕ) → has b.held k ≡ false → to.locks k ≡ m.locks k
  pub entries : (k : ℕ) → has b.held k ≡ false → entries_by image fuel (h ++ b ∷ []) k ≡ entries_by image fuel h k
