use Rattle.std.proofs.Common.{◌∙◌, ap}
use Rattle.tc_context.proofs.Vocabulary.{set_of, PackageView}
use Rattle.tc_context.proofs.Staging.{roomier_set}
use Rattle.tc_context.proofs.Running.{seal_set}
use Rattle.tc_hall_tests.proofs.context.step.Goals as goal

pub returns-clause-locks : goal.returns-clause-locks
returns-clause-locks g c = λ k.
    ap (λ (v : PackageView). set_of v.context k) c.seal.ensures ∙ seal_set c.args.stamp 0 c.run_block-ended.new.self k ∙ c.run_block-ended.ensures.ran.runs.keeps.set k
    ∙ roomier_set c.args.«package».now c.reserve.new.self k c.in_ok-reserve.ensures.same
