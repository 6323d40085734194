use Rattle.std.proofs.Common.{ℕ, arith}
use Rattle.std.specs.Prelude.{string_bytes}
use Rattle.tc_context.specs.View.{PackageView}
use Rattle.tc_report.specs.Report.{finished_of}
use Rattle.tc_report.specs.Summary.{end_line}
use Rattle.tc_report.proofs.Numbered.{numbered_more}
use Rattle.tc_report.proofs.summary.push_ends.Goals as goal

pub loop-number-preserved : goal.loop-number-preserved
loop-number-preserved c =
    let number = c.loop-number.number in
    numbered_more (λ (p : ℕ × PackageView). end_line (p.0, finished_of p.1)) (string_bytes c.args.out.now) _ _ 0 c.args.packages.now number number c.index-packages-number.result c.loop-number-test.true (omega arith) c.index-packages-number.is c.loop-number.invariant c.in_ok-push_end.ensures
