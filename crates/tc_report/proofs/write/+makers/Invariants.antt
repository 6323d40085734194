use Rattle.std.proofs.Common.{◌*◌, ◌+◌}
use Rattle.tc_report.proofs.write.+makers.Given as goal

abbrev pub decreases-rest : goal.decreases-rest
decreases-rest g l = 2 * l.others + 1

abbrev pub decreases-make_by : goal.decreases-make_by
decreases-make_by g l = 2 * l.threads
