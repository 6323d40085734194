use Rattle.std.proofs.Common.{◌≡◌, ◌++◌, Bor, map, sym, ap, ◌∙◌}
use Rattle.std.proofs.lemmas.Result.{IfOk-weaker}
use Rattle.tc_journal.specs.Line.{history_text}
use Rattle.tc_journal.specs.declared.block.Block.{Block}
use Rattle.tc_report.specs.Report.{head_text, tail_text}
use Rattle.tc_report.proofs.Outcomes.{told}
use Rattle.tc_report.proofs.report.report.Goals as goal

pub returns : goal.returns
returns c =
    let image = c.args.image.now in
    let same : map (λ (b : Bor Block). b.now) c.deref.result.now ≡ c.args.history.now =
    ap (map (λ (b : Bor Block). b.now)) c.deref.ensures.value ∙ c.in_ok-blocks.ensures in
    let tail : c.deref-2.result.now ≡ tail_text image c.args.packages.now c.args.locks.now = c.deref-2.ensures ∙ c.in_ok-tail.ensures in
    let whole = told image c.args.options.fuel c.args.history.now c.args.packages.now c.args.locks.now c.requires c.args.options in
    IfOk-weaker c.report_with.result _ _ (λ out written. written ∙ (λ i. head_text image c.args.options ++ history_text (same i) ++ tail i) ∙ sym whole) c.report_with.ensures
