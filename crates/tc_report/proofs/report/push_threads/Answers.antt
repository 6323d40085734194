use Rattle.std.proofs.Common.{arith}
use Rattle.std.specs.Prelude.{string_bytes}
use Rattle.tc_report.specs.Report.{package_text}
use Rattle.tc_report.proofs.Numbered.{numbered_more}
use Rattle.tc_report.proofs.report.push_threads.Goals as goal

pub loop-number-preserved : goal.loop-number-preserved
loop-number-preserved c =
    let number = c.loop-number.number in
    numbered_more package_text (string_bytes c.args.out.now) _ _ 0 c.args.packages.now number number c.index-packages-number.result c.loop-number-test.true (omega arith) c.index-packages-number.is c.loop-number.invariant c.in_ok-push_thread.ensures
