use Rattle.tc_queue.specs.Lines.{IsSeatOf}
use Rattle.tc_hall_tests.proofs.counting.unlock.Given as goal

abbrev pub invariant-loop : goal.invariant-loop
invariant-loop g l = IsSeatOf (g.Q.Waiters.queue l.queue) (g.Q.Waiters.seen l.seat)
