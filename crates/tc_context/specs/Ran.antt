-- What running one block made of a package.
use Rattle.std.specs.Prelude.{◌≡◌, ℕ, ◌-◌, true, false, [], ◌∷◌, ◌++◌, Option, Some, None, is_some, option_map}
use Rattle.tc_isa.specs.Sets.{has}
use Rattle.tc_elf.specs.Shown.{Shown}
use Rattle.tc_exec.specs.InPlace.{done_of}
use Rattle.tc_exec.specs.declared.outcome.Done.{Done}
use Rattle.tc_exec.specs.declared.outcome.Done.TheVariants.{Went, Stored, Called, Faulted}
use Rattle.tc_exec.specs.declared.outcome.Call.TheVariants.{Lock, Unlock, Sleep, Exit}
use Rattle.tc_journal.specs.Batch.{is_section}
use Rattle.tc_journal.specs.History.{IsBlock}
use Rattle.tc_journal.specs.declared.block.Block.{Block}
use Rattle.tc_turn.specs.Turn.{next_lock, next_act}
use Rattle.tc_turn.specs.Reads.{Covers}
use Rattle.tc_mutex_spec.specs.Machine.{State}
use Rattle.tc_mutex_spec.specs.Blocks.{reach}
use Rattle.tc_segment.specs.View.{LockView, sealed_block, EndsSection}
use Rattle.tc_context.specs.declared.context.Context.{Context}
use Rattle.tc_context.specs.Locks.{lock_in}
use Rattle.tc_context.specs.Whole.{thread_in, whole, set_of, block_locks, RunsAs, Journals}
use Rattle.tc_context.specs.View.{PackageView, kind_of, IsSoundPackage, Allows, fits_of}

-- the number of a SLEEP, 0 of any other turn
abbrev pub slept_by : Option Done → ℕ
slept_by None = 0
slept_by (Some Went) = 0
slept_by (Some (Stored put)) = 0
slept_by (Some (Called (Lock lock))) = 0
slept_by (Some (Called (Unlock lock))) = 0
slept_by (Some (Called (Sleep blocks))) = blocks
slept_by (Some (Called Exit)) = 0
slept_by (Some (Faulted f)) = 0

-- that of turn number n of the thread t from m on, which counts from 0
abbrev pub slept_at : Shown → State → ℕ → ℕ → ℕ
slept_at image m t n = slept_by (option_map done_of (next_act image ((reach image m t n).threads t) (reach image m t n).locks))

-- that of the last turn of a block of so many turns
abbrev pub slept_in : Shown → Context → ℕ → ℕ
slept_in image p turns = slept_at image (whole p) p.thread (turns - 1)

-- a block ran in the package `old`, and is pending in `new`
pub record DidRun (image : Shown) (old new : PackageView) : Type 0 where
  pub block : Block
  pub pending : new.pending ≡ Some block
  pub bounds : IsBlock block
  pub thread : block.thread ≡ old.context.thread
  pub kind : block.kind ≡ kind_of old.granted old.log
  pub first : is_section block.kind ≡ false → block.kind ≡ kind_of None old.log
  pub section : is_section block.kind ≡ is_some (next_lock image (thread_in old.context))
  -- where its thread stood before it
  pub pc : block.pc ≡ (thread_in old.context).regs.pc
  -- its locks, which are in the package; the one that it took was at rest
  pub held : (k : ℕ) → has block.held k ≡ block_locks image old.context k
  pub covers : Covers image (set_of old.context) (thread_in old.context)
  pub rests : (k : ℕ) (l : LockView) → next_lock image (thread_in old.context) ≡ Some k → lock_in old.context.locks k ≡ Some l → EndsSection k l
  pub sound : IsSoundPackage new
  -- its turns, and its entry in the journal of each of its locks
  pub runs : RunsAs image old.context new.context block.turns block.end
  pub journals : Journals image old.context new.context block
  pub slept : new.slept ≡ slept_in image old.context block.turns
  -- a worker that the package fitted may seal it
  pub fits : (worker : ℕ) → fits_of old worker ≡ true → Allows new.context block worker
  pub log : new.log ≡ old.log ++ block ∷ []
  pub granted : new.granted ≡ None
  pub image_is : new.image ≡ old.image
  pub numbers : new.numbers ≡ old.numbers
  pub turns : new.turns ≡ old.turns
  pub room : new.log_room ≡ old.log_room - 1

-- its block with a stamp and a worker
abbrev pub block_sealed : {image : Shown} {old new : PackageView} → DidRun image old new → ℕ → ℕ → Block
block_sealed ran stamp worker = sealed_block stamp worker ran.block
