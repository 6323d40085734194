use Rattle.std.proofs.Common.{◌≡◌, ◌*◌, ◌≤◌, ◌^◌, take}
use Rattle.std.specs.Prelude.{sum_by}
use Rattle.tc_journal.specs.declared.block.Block.{Block}
use Rattle.tc_report.proofs.summary.turns_of.Given as goal

abbrev pub invariant-loop-block : goal.invariant-loop-block
invariant-loop-block l = (l.turns ≡ sum_by (λ (b : Block). b.turns) (take l.block-index l.history)) × (l.turns ≤ 2 ^ 32 * l.block-index)
