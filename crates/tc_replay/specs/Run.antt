-- A recorded block beside the one that a package runs.
use Rattle.std.specs.Prelude.{◌≡◌, ℕ, List, Option, Some, None, if◌then◌else◌}
use Rattle.tc_isa.specs.declared.options.Options.{Options as Terms}
use Rattle.tc_elf.specs.Shown.{Shown}
use Rattle.tc_journal.specs.Batch.{is_section, Obeys}
use Rattle.tc_journal.specs.History.{of_lock}
use Rattle.tc_journal.specs.declared.block.Block.{Block}
use Rattle.tc_journal.specs.declared.block.Kind.{Kind}
use Rattle.tc_journal.specs.declared.block.Kind.TheVariants.{Taken}
use Rattle.tc_segment.specs.View.{sealed_block}
use Rattle.tc_context.specs.declared.package.Grant.{Grant}
use Rattle.tc_context.specs.View.{PackageView, Allows, IsReserved, WantIsGranted, with_seal}
use Rattle.tc_context.specs.Ran.{DidRun}
use Rattle.tc_mutex_spec.specs.Blocks.{Tells, end_after}
use Rattle.tc_law.specs.History.{Follows}
use Rattle.tc_replay.specs.Rejected.{IsOfThread, IsFree, IsRight, IsWrong}
use Rattle.tc_replay.specs.declared.reason.Reason.{Reason}

-- the two have the same steps, locks, pc and end
pub record HaveSameTurns (a b : Block) : Type 0 where
  pub turns : a.turns ≡ b.turns
  pub held : a.held ≡ b.held
  pub pc : a.pc ≡ b.pc
  pub end : a.end ≡ b.end

-- how a lock is granted to the thread of a recorded block: with the recorded kind if that is a
-- section's, else as Taken
abbrev pub grant_kind : Block → Kind
grant_kind b = if is_section b.kind then b.kind else Taken

-- what was granted to the package was granted so
abbrev pub IsGrantedFor : Block → PackageView → Type 0
IsGrantedFor b p = (g : Grant) → p.granted ≡ Some g → g.kind ≡ grant_kind b

-- the package of the block's thread agrees with the history, and may run: nothing is wrong before the block's steps
pub record IsPrepared (image : Shown) (terms : Terms) (h : List Block) (p : PackageView) (b : Block) : Type 0 where
  pub tells : Tells image terms.fuel h (end_after image terms.fuel h)
  pub follows : Follows image terms.fuel terms.limit h (end_after image terms.fuel h) p
  pub obeys : (k : ℕ) → Obeys k terms.limit (of_lock h k)
  pub thread : IsOfThread image (end_after image terms.fuel h) b
  pub free : IsFree image (end_after image terms.fuel h) b
  pub mine : b.thread ≡ p.context.thread
  pub pending : p.pending ≡ None
  pub reserved : IsReserved p
  pub want : WantIsGranted image p
  pub granted : IsGrantedFor b p

-- the package ran the block, which was sealed as it is recorded
pub record IsRecorded (image : Shown) (old new : PackageView) (b : Block) : Type 0 where
  pub pending : PackageView
  pub ran : DidRun image old pending
  pub allows : Allows pending.context ran.block b.worker
  pub sealed : new ≡ with_seal b.stamp b.worker pending
  pub is : sealed_block b.stamp b.worker ran.block ≡ b

-- the verdict on the block: nothing is wrong with it, and the package has it; or it is wrong for this reason
abbrev pub IsJudged : Shown → Terms → List Block → PackageView → PackageView → Block → Option Reason → Type 0
IsJudged image terms h old new b None = IsRight image terms h (end_after image terms.fuel h) b × IsRecorded image old new b
IsJudged image terms h old new b (Some r) = IsWrong image terms h (end_after image terms.fuel h) b r
