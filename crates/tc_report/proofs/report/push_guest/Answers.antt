use Rattle.std.proofs.Common.{rules, append_assoc}
use Rattle.tc_report.specs.Report.{guest_line}
use Rattle.tc_report.proofs.report.push_guest.Goals as goal

pub returns : goal.returns
unfolding guest_line
returns c = search (rules, append_assoc)
