use Rattle.std.proofs.Common.{◌≡◌, length, take}
use Rattle.tc_report.specs.Logs.{blocks_in}
use Rattle.tc_report.proofs.row.count_of.Given as goal

abbrev pub invariant-loop-log : goal.invariant-loop-log
invariant-loop-log l = l.count ≡ length (blocks_in (take l.log-index l.logs))
