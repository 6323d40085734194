use Rattle.std.specs.VecDeque.{deque_items}
use Rattle.std.proofs.Common.{◌≡◌, ◌≤◌, ◌++◌, length, map, vec_capacity}
use Rattle.tc_workers.proofs.lines.set_apart.Given as goal

abbrev pub invariant-loop-queue : goal.invariant-loop-queue
invariant-loop-queue g l = (map (λ a. g.Q.Waiters.queue a.queue) l.apart.items ≡ map g.Q.Waiters.queue l.yielded) × (l.fn.queues.items ≡ l.yielded ++ deque_items l.queue-iterator.rest) × (length l.apart.items ≡ length l.yielded)
    × (length l.fn.queues.items ≤ vec_capacity l.apart)
