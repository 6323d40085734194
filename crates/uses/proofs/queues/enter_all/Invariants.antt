use Rattle.std.proofs.Common.{◌≡◌, ◌+◌, ◌*◌, ◌≤◌, length}
use Rattle.tc_queue.specs.Lines.{IsSeatOf}
use Rattle.uses.proofs.queues.enter_all.Given as goal

abbrev pub invariant-loop-turn : goal.invariant-loop-turn
invariant-loop-turn g l = record {
  seat : IsSeatOf (g.Q.Waiters.queue l.queue) (g.Q.Waiters.seen l.seat);
  calls : length (g.Q.Waiters.seen l.seat).calls ≡ length (g.Q.Waiters.seen l.fn.seat).calls + l.calls;
  few : l.calls ≤ 2 * l.turn-index;
}
