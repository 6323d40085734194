use Rattle.std.proofs.Common.{rules, ◌≡◌, ◌∙◌, ◌++◌, ◌∷◌, List, [], length, map, sym, ap, subst, arith, Vec, Global}
use Rattle.std.proofs.lemmas.List.{length-map, map-append}
use Rattle.tc_mutex_spec.proofs.ListLaws.{there}
use Rattle.tc_queue.specs.View.{QueueView}
use Rattle.tc_workers.proofs.Hiring.{one_longer}
use Rattle.tc_workers.proofs.Rows.{AreRows, no_seats, queues_more, rows_more}
use Rattle.tc_workers.proofs.lines.line_up.Goals as goal

pub loop-lock-init : goal.loop-lock-init
loop-lock-init g c =
    let queue = g.M.Queue.Waiters.queue in
    let queues = c.in_ok-queues.queues.items in
    let none : queues ≡ [] = c.in_ok-queues.ensures.items in
    let empty = ap (λ (l : List g.row.M-Queue.Denot). length l) none in
    let views = length-map queues queue in record {
      count = empty;
      made = λ i q e. absurd (omega (arith, empty, views, (there (map queue queues) i q q e).0));
      workers = c.in_ok-rows.ensures.count;
      rows = no_seats (λ (row : Vec g.row.M-Queue-Seat.Denot Global). row.items) g.M.Queue.Waiters.seen (map queue queues) c.in_ok-rows.rows.items (ap (map queue) none) c.in_ok-rows.ensures.rows;
      room = search rules;
    }

pub loop-lock-preserved : goal.loop-lock-preserved
loop-lock-preserved g c =
    let view = g.M.Queue.Waiters.queue in
    let i = c.loop-lock.invariant in
    let count = i.count in
    let room = i.room in
    let capacity = c.push_reserved.ensures.capacity in
    let old = c.loop-lock.queues.items in
    let now = c.push_reserved.new.self.items in
    let queue = c.in_ok-queue.queue in
    let seats = c.in_ok-queue.seats.items in
    let longer = one_longer now old queue c.push_reserved.ensures.items in
    let views : map view now ≡ map view old ++ view queue ∷ [] = ap (map view) c.push_reserved.ensures.items ∙ map-append view old (queue ∷ []) in record {
      count = omega arith;
      made = queues_more (length c.args.image.now.entries) (map view old) (map view now) (view queue) i.made (c.in_ok-queue.ensures.threads ∙ c.threads.ensures.value) views;
      workers = c.in_ok-deal.ensures.count ∙ i.workers;
      rows = subst (λ (qs : List QueueView). AreRows (λ (row : Vec g.row.M-Queue-Seat.Denot Global). row.items) g.M.Queue.Waiters.seen qs c.deal.new.rows.items) (sym views)
          (rows_more (λ (row : Vec g.row.M-Queue-Seat.Denot Global). row.items) g.M.Queue.Waiters.seen (map view old) (view queue) c.loop-lock.rows.items seats c.deal.new.rows.items i.rows c.in_ok-queue.ensures.seats (c.in_ok-queue.ensures.count ∙ sym i.workers) c.in_ok-deal.ensures);
      room = omega arith;
    }
