use Rattle.std.proofs.Common.{◌≡◌, length, min, take}
use Rattle.tc_report.specs.Logs.{blocks_in}
use Rattle.tc_report.proofs.row.row_of.Given as goal

abbrev pub invariant-loop-log : goal.invariant-loop-log
invariant-loop-log l = length l.row.items ≡ min l.size (length (blocks_in (take l.log-index l.logs)))
