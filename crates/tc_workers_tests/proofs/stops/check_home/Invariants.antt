use Rattle.tc_workers_tests.specs.Scripts.{IsAtHall}
use Rattle.tc_workers_tests.proofs.stops.check_home.Given as goal

abbrev pub invariant-loop-lock : goal.invariant-loop-lock
invariant-loop-lock g l = IsAtHall l.bench l.pass
