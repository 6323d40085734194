use Rattle.std.proofs.Common.{◌≡◌, ◌≤◌, length, map, vec_capacity}
use Rattle.tc_order.specs.declared.in_hall.InHall.{InHall}
use Rattle.tc_queue.specs.Lines.{seat_as}
use Rattle.tc_workers.specs.Rows.{AreInPlace}
use Rattle.tc_workers.proofs.Rows.{AreMadeFor, AreRows}
use Rattle.tc_workers.proofs.lines.line_up_in_hall.Given as goal

abbrev pub invariant-loop-lock : goal.invariant-loop-lock
invariant-loop-lock l = record {
  count : length l.queues.items ≡ l.lock;
  made : AreMadeFor (length l.image.entries) (map (λ (x : InHall). x.seats) l.queues.items);
  workers : length l.rows.items ≡ l.workers;
  rows : AreRows (λ row. row.items) seat_as (map (λ (x : InHall). x.seats) l.queues.items) l.rows.items;
  places : AreInPlace (length l.image.entries) l.queues.items;
  room : l.lock-end ≤ vec_capacity l.queues;
}
