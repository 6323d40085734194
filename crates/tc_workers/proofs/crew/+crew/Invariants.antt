use Rattle.std.proofs.Common.{◌+◌, ◌*◌}
use Rattle.tc_workers.proofs.crew.+crew.Given as goal

abbrev pub decreases-together : goal.decreases-together
decreases-together g l = 2 * l.crew.len

abbrev pub decreases-others : goal.decreases-others
decreases-others g l = 2 * l.crew.len + 1
