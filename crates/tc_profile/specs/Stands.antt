-- A profile, and the history that its numbers represent.
use Rattle.std.specs.Prelude.{◌≡◌, ℕ, ◌*◌, ◌<◌, ◌≤◌, List, length, slice_get, Some}
use Rattle.tc_isa.specs.declared.limits.TheConstants.{MAX_TURNS}
use Rattle.tc_journal.specs.declared.block.Block.{Block}
use Rattle.tc_profile.specs.declared.tally.LockTally.{LockTally}
use Rattle.tc_profile.specs.declared.tally.ThreadTally.{ThreadTally}
use Rattle.tc_profile.specs.Tally.{lock_tally, thread_tally}
use Rattle.tc_profile.specs.Profile.{thread_profile}

-- a profile as a caller sees it: the history of all blocks that were added, and its numbers of threads and locks
pub record ProfileView : Type 0 where
  pub history : List Block
  pub threads : ℕ
  pub locks : ℕ

-- the numbers represent the history: no block has more steps than a block may have, and each thread
-- and each lock has the tally of the history
pub record StandFor (threads : List ThreadTally) (locks : List LockTally) (h : List Block) : Type 0 where
  pub most_turns : (t : ℕ) → (thread_profile h t).turns ≤ MAX_TURNS * length h
  pub threads_are : (t : ℕ) → t < length threads → slice_get threads t ≡ Some (thread_tally h t)
  pub locks_are : (k : ℕ) → k < length locks → slice_get locks k ≡ Some (lock_tally h k)
