use Rattle.std.proofs.Common.{rules, ⊎_elim, ◌≡◌, ◌∙◌, ◌++◌, ◌∷◌, List, [], length, map, sym, ap, subst, arith, Vec, Global}
use Rattle.std.proofs.lemmas.List.{length-map, map-append}
use Rattle.tc_mutex_spec.proofs.ListLaws.{there}
use Rattle.tc_queue.specs.View.{QueueView}
use Rattle.tc_workers.proofs.Hiring.{one_longer}
use mathlib.Core.Option.{some}
use lib.ListN.{get_elem?}
use Rattle.tc_lemmas.proofs.Lists.{at_end}
use Rattle.tc_order.specs.declared.in_hall.InHall.{InHall}
use Rattle.tc_queue.specs.Lines.{seat_as}
use Rattle.tc_queue.specs.View.{OwnView}
use Rattle.tc_workers.proofs.Rows.{AreRows, no_seats, queues_more, rows_more}
use Rattle.tc_workers.proofs.lines.line_up_in_hall.Goals as goal

pub loop-lock-init : goal.loop-lock-init
loop-lock-init c =
    let queue : InHall → QueueView = λ x. x.seats in
    let queues = c.in_ok-queues.queues.items in
    let none : queues ≡ [] = c.in_ok-queues.ensures.items in
    let empty = ap (λ (l : List InHall). length l) none in
    let views = length-map queues queue in record {
      count = empty;
      made = λ i q e. absurd (omega (arith, empty, views, (there (map queue queues) i q q e).0));
      workers = c.in_ok-rows.ensures.count;
      rows = no_seats (λ (row : Vec OwnView Global). row.items) seat_as (map queue queues) c.in_ok-rows.rows.items (ap (map queue) none) c.in_ok-rows.ensures.rows;
      places = λ i l e. absurd (omega (arith, empty, (there queues i l l e).0));
      room = search rules;
    }

pub loop-lock-preserved : goal.loop-lock-preserved
loop-lock-preserved c =
    let view : InHall → QueueView = λ x. x.seats in
    let i = c.loop-lock.invariant in
    let count = i.count in
    let room = i.room in
    let capacity = c.push_reserved.ensures.capacity in
    let old = c.loop-lock.queues.items in
    let now = c.push_reserved.new.self.items in
    let queue = c.in_ok-line.line in
    let seats = c.in_ok-line.seats.items in
    let longer = one_longer now old queue c.push_reserved.ensures.items in
    let views : map view now ≡ map view old ++ view queue ∷ [] = ap (map view) c.push_reserved.ensures.items ∙ map-append view old (queue ∷ []) in record {
      count = omega arith;
      made = queues_more (length c.args.image.now.entries) (map view old) (map view now) (view queue) i.made (c.in_ok-line.ensures.line.1 ∙ c.threads.ensures.value) views;
      workers = c.in_ok-deal.ensures.count ∙ i.workers;
      rows = subst (λ (qs : List QueueView). AreRows (λ (row : Vec OwnView Global). row.items) seat_as qs c.deal.new.rows.items) (sym views)
          (rows_more (λ (row : Vec OwnView Global). row.items) seat_as (map view old) (view queue) c.loop-lock.rows.items seats c.deal.new.rows.items i.rows c.in_ok-line.ensures.seats (c.in_ok-line.ensures.count ∙ sym i.workers) c.in_ok-deal.ensures);
      places = λ j l e. ⊎_elim (λ (o : get_elem? old j ≡ some l). i.places j l o)
          (λ (o : (j ≡ length old) × (queue ≡ l)). subst (λ (z : InHall). (z.lock ≡ j) × (z.seats.threads ≡ length c.args.image.now.entries)) o.1 (c.in_ok-line.ensures.line.0 ∙ (sym i.count ∙ sym o.0), c.in_ok-line.ensures.line.1 ∙ c.threads.ensures.value))
          (at_end old queue l j (subst (λ (xs : List InHall). get_elem? xs j ≡ some l) c.push_reserved.ensures.items e));
      room = omega arith;
    }
