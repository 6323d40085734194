-- What a run leaves: the packages of all threads and the states of all locks.
use Rattle.std.specs.Prelude.{◌≡◌, ℕ, List, length}
use Rattle.std.specs.List.{flat_map}
use Rattle.tc_elf.specs.Shown.{Shown}
use Rattle.tc_journal.specs.declared.block.Block.{Block}
use Rattle.tc_mutex_spec.specs.Blocks.{IsComplete, end_after}
use Rattle.tc_segment.specs.View.{LockView, kept}
use Rattle.tc_context.specs.View.{PackageView, bare}
use Rattle.tc_law.specs.Lawful.{StandsAt, IsPackageAfter, IsStateAfter}

-- The packages of all threads and the states of all locks, in order of number, are as the history leaves them, and each
-- thread has ended: the log of a package has the blocks of its thread and the entries of a lock state are those of its lock in
-- the run, and each thread and lock is as in the run's end. Each lock state may have a batch limit of its own.
pub record IsOutcome (image : Shown) (fuel : ℕ) (h : List Block) (packages : List PackageView) (states : List LockView) : Type 0 where
  pub all_packages : length packages ≡ length image.entries
  pub all_states : length states ≡ length image.guards
  pub packages_after : (t : ℕ) (p : PackageView) → StandsAt packages t p → IsPackageAfter image fuel h t (bare p)
  pub states_after : (k : ℕ) (l : LockView) → StandsAt states k l → IsStateAfter image fuel l.journal.limit h k (kept l)
  pub complete : IsComplete image (end_after image fuel h)

abbrev pub log_in : PackageView → List Block
log_in p = p.log

-- the blocks of all packages, log after log
abbrev pub logs_of : List PackageView → List Block
logs_of packages = flat_map log_in packages
