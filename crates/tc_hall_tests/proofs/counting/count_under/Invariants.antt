use Rattle.tc_queue.specs.Lines.{IsSeatOf}
use Rattle.tc_hall_tests.proofs.counting.count_under.Given as goal

abbrev pub invariant-loop-number : goal.invariant-loop-number
invariant-loop-number g l = IsSeatOf (g.Q.Waiters.queue l.queue) (g.Q.Waiters.seen l.seat)
