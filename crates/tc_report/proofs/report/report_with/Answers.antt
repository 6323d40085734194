use Rattle.std.proofs.Common.{rules, append_assoc}
use Rattle.tc_report.proofs.report.report_with.Goals as goal

pub returns : goal.returns
returns c = search (rules, append_assoc)
