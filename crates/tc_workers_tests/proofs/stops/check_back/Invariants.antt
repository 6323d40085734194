use Rattle.tc_workers_tests.specs.Scripts.{IsAtHall}
use Rattle.tc_workers_tests.proofs.stops.check_back.Given as goal

abbrev pub invariant-loop-t : goal.invariant-loop-t
invariant-loop-t g l = IsAtHall l.bench l.pass
