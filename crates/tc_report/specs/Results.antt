-- What a run came to, as its report tells it.
use Rattle.std.specs.Prelude.{ℕ, Bool, List}
use Rattle.tc_isa.specs.Registers.{Registers}
use Rattle.tc_journal.specs.declared.block.Block.{Block}
use Rattle.tc_turn.specs.declared.status.Status.{Status}

-- a thread at the end of a run: how it ended, the fuel that was left, in instructions, and its registers
pub record Finished : Type 0 where
  pub status : Status
  pub fuel : ℕ
  pub regs : Registers

-- a lock at the end of a run: where its guard begins, the guard's bytes, whether the lock is broken, and how many
-- sections it had
pub record Guarded : Type 0 where
  pub start : ℕ
  pub bytes : List ℕ
  pub broken : Bool
  pub sections : ℕ

-- the blocks in the order of their stamps, and the threads and the locks in the order of their numbers
pub record Results : Type 0 where
  pub history : List Block
  pub threads : List Finished
  pub locks : List Guarded
