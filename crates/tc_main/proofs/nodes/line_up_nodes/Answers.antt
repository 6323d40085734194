use Rattle.std.proofs.Common.{rules, ◌≡◌, ◌∙◌, List, [], length, map, sym, ap, subst, arith, Vec, Global}
use Rattle.std.proofs.lemmas.List.{length-map}
use Rattle.tc_mutex_spec.proofs.ListLaws.{there}
use Rattle.tc_queue.specs.View.{QueueView}
use Rattle.tc_nodes.specs.Lines.{queue_as, seat_as}
use Rattle.tc_nodes.specs.View.{NodeQueueView}
use Rattle.tc_nodes.specs.declared.queue.NodeSeat.{NodeSeat}
use Rattle.tc_workers.proofs.Hiring.{one_longer}
use Rattle.tc_workers.proofs.Rows.{AreRows, no_seats, queues_more, rows_more}
use Rattle.tc_main.proofs.NodeRows.{none_on, on_more, bounds_more, views_more}
use Rattle.tc_main.proofs.nodes.line_up_nodes.Goals as goal

pub loop-lock-init : goal.loop-lock-init
loop-lock-init c =
    let queues = c.in_ok-queues.queues.items in
    let none : queues ≡ [] = c.in_ok-queues.ensures.items in
    let empty = ap (λ (l : List NodeQueueView). length l) none in
    let views = length-map queues queue_as in record {
      count = empty;
      made = λ i q e. absurd (omega (arith, empty, views, (there (map queue_as queues) i q q e).0));
      bounds = λ k d lt. absurd (omega (arith, empty, lt));
      workers = c.in_ok-rows.ensures.count;
      rows = no_seats (λ (row : Vec NodeSeat Global). row.items) seat_as (map queue_as queues) c.in_ok-rows.rows.items (ap (map queue_as) none) c.in_ok-rows.ensures.rows;
      nodes = none_on c.args.nodes (λ (row : Vec NodeSeat Global). row.items) c.in_ok-rows.rows.items c.in_ok-rows.ensures.rows;
      room = search rules;
    }

pub loop-lock-preserved : goal.loop-lock-preserved
loop-lock-preserved c =
    let i = c.loop-lock.invariant in
    let count = i.count in
    let room = i.room in
    let capacity = c.push_reserved.ensures.capacity in
    let queue = c.in_ok-queue.queue in
    let seats = c.in_ok-queue.seats.items in
    let same = c.in_ok-queue.ensures.count ∙ sym i.workers in
    let now = c.push_reserved.ensures.items in
    let views = views_more c.loop-lock.queues.items c.push_reserved.new.self.items queue now in
    let longer = one_longer c.push_reserved.new.self.items c.loop-lock.queues.items queue now in record {
      count = omega arith;
      made = queues_more (length c.args.image.now.entries) (map queue_as c.loop-lock.queues.items) (map queue_as c.push_reserved.new.self.items) (queue_as queue) i.made (c.in_ok-queue.ensures.queue.0 ∙ c.threads.ensures.value) views;
      bounds = bounds_more c.args.bound c.loop-lock.queues.items c.push_reserved.new.self.items queue i.bounds c.in_ok-queue.ensures.queue.1 now;
      workers = c.in_ok-deal.ensures.count ∙ i.workers;
      rows = subst (λ (qs : List QueueView). AreRows (λ (row : Vec NodeSeat Global). row.items) seat_as qs c.deal.new.rows.items) (sym views)
          (rows_more (λ (row : Vec NodeSeat Global). row.items) seat_as (map queue_as c.loop-lock.queues.items) (queue_as queue) c.loop-lock.rows.items seats c.deal.new.rows.items i.rows c.in_ok-queue.ensures.own same c.in_ok-deal.ensures);
      nodes = on_more c.args.nodes (λ (row : Vec NodeSeat Global). row.items) queue c.loop-lock.rows.items seats c.deal.new.rows.items i.nodes c.in_ok-queue.ensures.seats same c.in_ok-deal.ensures;
      room = omega arith;
    }
