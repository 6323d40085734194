-- The future of a run: how many steps it may have, and how it can go on to the end of every thread.
use Rattle.std.specs.Prelude.{◌≡◌, ℕ, ◌+◌, ◌*◌, ◌^◌, ◌<◌, ◌≤◌, false, List, length, All, Some}
use Rattle.tc_isa.specs.declared.limits.TheConstants.{MAX_FUEL}
use Rattle.tc_elf.specs.Shown.{Shown, entry_at}
use Rattle.tc_elf.specs.declared.limits.TheConstants.{MAX_THREADS}
use Rattle.tc_journal.specs.Batch.{is_passed, Obeys, PassesOn}
use Rattle.tc_journal.specs.Handing.{Delegates}
use Rattle.tc_journal.specs.History.{IsHistory, IsInOrder, of_lock}
use Rattle.tc_journal.specs.declared.block.Block.{Block}
use Rattle.tc_mutex_spec.specs.Machine.{State, start}
use Rattle.tc_mutex_spec.specs.Machine as machine
use Rattle.tc_mutex_spec.specs.Blocks.{Tells, IsComplete}

-- steps from the start, each of them defined
pub record Run : Type 0 where
  pub image : Shown
  pub fuel : ℕ
  pub turns : List ℕ
  pub last : State
  pub leads : machine.turns image (start image fuel) turns ≡ Some last

-- each thread has one more step than it has fuel
abbrev pub most_turns : Shown → ℕ → ℕ
most_turns image fuel = length image.entries * (fuel + 1)

-- further steps after which each thread has ended
pub record CanRunOn (image : Shown) (m : State) : Type 0 where
  pub rest : List ℕ
  pub last : State
  pub leads : machine.turns image m rest ≡ Some last
  pub complete : IsComplete image last

-- the numbers of the image and the fuel are at most those of a file and of a run's arguments
pub record IsSized (image : Shown) (fuel : ℕ) : Type 0 where
  pub threads : length image.entries ≤ MAX_THREADS
  pub entries : (t : ℕ) → (entry_at image t).address < 2 ^ 32
  pub most_fuel : fuel ≤ MAX_FUEL

-- a history that is a trace of a complete run. All its blocks are of worker 0, so of a worker that exists if any
-- does, and no section is passed on. So the blocks of each lock obey every batch limit, and pass its sections on
-- to other threads. Worker 0 goes on with each thread whose block was cut, so the history shows delegation
pub record CompleteHistory (image : Shown) (fuel : ℕ) : Type 0 where
  pub history : List Block
  pub last : State
  pub tells : Tells image fuel history last
  pub complete : IsComplete image last
  pub order : IsInOrder history
  pub numbers : IsSized image fuel → IsHistory history
  pub workers : All (λ (b : Block). b.worker ≡ 0) history
  pub taken : All (λ (b : Block). is_passed b.kind ≡ false) history
  pub obeys : (limit k : ℕ) → Obeys k limit (of_lock history k)
  pub passes : (k : ℕ) → PassesOn k (of_lock history k)
  pub delegates : Delegates history
