use Rattle.std.proofs.Common.{◌≡◌, ◌≤◌, length, map, vec_capacity}
use Rattle.tc_workers.proofs.Rows.{AreMadeFor, AreRows}
use Rattle.tc_workers.proofs.lines.line_up.Given as goal

abbrev pub invariant-loop-lock : goal.invariant-loop-lock
invariant-loop-lock g l = record {
  count : length l.queues.items ≡ l.lock;
  made : AreMadeFor (length l.image.entries) (map g.M.Queue.Waiters.queue l.queues.items);
  workers : length l.rows.items ≡ l.workers;
  rows : AreRows (λ row. row.items) g.M.Queue.Waiters.seen (map g.M.Queue.Waiters.queue l.queues.items) l.rows.items;
  room : l.lock-end ≤ vec_capacity l.queues;
}
