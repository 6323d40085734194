use Rattle.std.proofs.Common.{◌≡◌, ◌≤◌, All, length, map, vec_capacity}
use Rattle.tc_main.specs.Orders.{AreOnNodes}
use Rattle.tc_nodes.specs.Lines.{queue_as, seat_as}
use Rattle.tc_workers.proofs.Rows.{AreMadeFor, AreRows}
use Rattle.tc_main.proofs.nodes.line_up_nodes.Given as goal

abbrev pub invariant-loop-lock : goal.invariant-loop-lock
invariant-loop-lock l = record {
  count : length l.queues.items ≡ l.lock;
  made : AreMadeFor (length l.image.entries) (map queue_as l.queues.items);
  bounds : All (λ q. q.bound ≡ l.bound) l.queues.items;
  workers : length l.rows.items ≡ l.workers;
  rows : AreRows (λ row. row.items) seat_as (map queue_as l.queues.items) l.rows.items;
  nodes : AreOnNodes l.nodes (λ row. row.items) l.rows.items;
  room : l.lock-end ≤ vec_capacity l.queues;
}
