use Rattle.std.proofs.Common.{Bor, map, ap, ◌∙◌}
use Rattle.std.proofs.lemmas.Iterator.{YieldsList-from_slice, items_from_drains}
use Rattle.std.proofs.lemmas.Result.{IfOk-weaker}
use Rattle.tc_journal.specs.declared.block.Block.{Block}
use Rattle.tc_report.proofs.report.lent.Goals as goal

pub returns : goal.returns
returns c =
    IfOk-weaker c.collect.result _ _
    (λ blocks ran. ap (map (λ (b : Bor Block). b.now)) ran.2.0 ∙ items_from_drains ran.0 ran.1 (YieldsList-from_slice c.args.history.now cc))
    c.collect.ensures.ran
