use Rattle.std.proofs.Common.{rules, append_assoc}
use Rattle.tc_report.specs.Report.{run_line}
use Rattle.tc_report.proofs.report.push_run.Goals as goal

pub returns : goal.returns
unfolding run_line
returns c = search (rules, append_assoc)
