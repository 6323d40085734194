use Rattle.std.proofs.Common.{◌-◌, vec_len}
use Rattle.tc_report.proofs.ring.Ring.new.Given as goal

abbrev pub decreases-loop-alloc : goal.decreases-loop-alloc
decreases-loop-alloc g l = l.size - vec_len l.places
