use Rattle.std.proofs.Common.{◌≡◌, ◌∙◌, List, All, length, map, sym, ap, subst}
use lib.ListN.{length-map}
use Rattle.tc_elf.specs.Shown.{Shown}
use Rattle.tc_order.specs.Order.{AreInOrder}
use Rattle.tc_workers.proofs.Hiring.{at_work, for_hire, same_lines}
use Rattle.tc_workers_tests.proofs.scripts.play_at.Goals as goal

pub invariant_of-bench : goal.invariant_of-bench
invariant_of-bench g c = subst (λ (qs : List g.row.Q.Denot). All (λ q. g.Q.Order.fits q c.args.opened.0) qs × AreInOrder g.Q.Order.of qs) (sym c.as_slice.ensures.value) (c.requires.fits, c.requires.order)

pub hire-requires-after_bounds : goal.hire-requires-after_bounds
hire-requires-after_bounds g c κs within =
    let same : map g.Q.Order.queue c.as_slice.result.now ≡ map g.Q.Order.queue c.args.lines.queues.items = ap (map g.Q.Order.queue) c.as_slice.ensures.value in
    let lines = same_lines _ _ _ _ _ _ c.requires.lines same in
    for_hire _ (λ row. map g.Q.Order.seen row.items) _ _ _ c.args.opened.1.items c.args.lines.rows.items c.in_ok-ready.ready.items (record { hall = c.requires.hall; queues = lines.queues }) c.requires.passes lines.count lines.rows c.in_ok-ready.ensures
    (c.threads.ensures.value ∙ sym (ap (λ (x : Shown). length x.entries) c.requires.hall))

pub perform-requires-clause-work : goal.perform-requires-clause-work
perform-requires-clause-work g c κs within =
    let rows = length-map c.args.lines.rows.items (λ row. map g.Q.Order.seen row.items) ∙ c.requires.lines.count in
    at_work _ _ _ (length c.args.opened.1.items) c.in_ok-hired.hired.items (c.in_ok-ready.ensures.count.0 ∙ sym rows) (rows ∙ sym c.requires.passes.count) c.in_ok-hired.ensures
