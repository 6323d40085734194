use Rattle.std.proofs.Common.{◌≡◌, ◌∙◌, ◌≤◌, ◌*◌, ℕ, List, All, length, map, min, sym, ap, subst}
use Rattle.std.proofs.lemmas.Result.{IfOk-weaker}
use lib.ListN.{length-map}
use Rattle.tc_isa.specs.declared.options.Options.{Options}
use Rattle.tc_elf.specs.Shown.{Shown}
use Rattle.tc_hall.specs.PassView.{ClosedView}
use Rattle.tc_order.specs.Order.{AreInOrder}
use Rattle.tc_hall.specs.Closing.{IsEnd}
use Rattle.tc_workers.specs.Crew.{HasRun}
use Rattle.tc_ready.specs.ReadyView.{AreCrew, ReadyView}
use Rattle.tc_workers.specs.Run.{HaveRoom, IsWholeRun}
use Rattle.tc_workers.specs.StepWith.{CanHave}
use Rattle.tc_workers.proofs.Hiring.{for_hire, same_lines}
use Rattle.tc_workers.proofs.Joining.{closed_so, has_run, whole}
use Rattle.tc_workers.proofs.Machine.{closed_run}
use Rattle.tc_workers.proofs.run.run_opened.Goals as goal

pub invariant_of-bench : goal.invariant_of-bench
invariant_of-bench g c = subst (λ (qs : List g.row.Q.Denot). All (λ q. g.Q.Order.fits q c.args.opened.0) qs × AreInOrder g.Q.Order.of qs) (sym c.as_slice.ensures.value) (c.requires.fits, c.requires.order)

pub run_at-requires-clause-hire : goal.run_at-requires-clause-hire
run_at-requires-clause-hire g c κs within =
    let hall = c.requires.hall in
    let same : map g.Q.Order.queue c.as_slice.result.now ≡ map g.Q.Order.queue c.args.lines.queues.items = ap (map g.Q.Order.queue) c.as_slice.ensures.value in
    let lines = same_lines _ _ _ _ _ _ c.requires.lines same in
    for_hire _ (λ row. map g.Q.Order.seen row.items) _ _ _ c.args.opened.1.items c.args.lines.rows.items c.in_ok-ready.ready.items (record { hall = hall.image; queues = lines.queues }) c.requires.passes lines.count lines.rows c.in_ok-ready.ensures
    (c.threads-threads.ensures.value ∙ sym (ap (λ (x : Shown). length x.entries) hall.image))

pub finish-requires : goal.finish-requires
finish-requires g c =
    let rows = length-map c.args.lines.rows.items (λ row. map g.Q.Order.seen row.items) in
    subst (λ (n : ℕ). HasRun c.args.opened.0 n c.in_ok-finished.finished.pass c.in_ok-finished.finished.all_done) ((rows ∙ c.requires.lines.count) ∙ sym c.requires.hall.workers) (has_run _ _ _ _ _ c.in_ok-finished.ensures)

pub returns-clause-whole : goal.returns-clause-whole
returns-clause-whole g c =
    let hall = c.args.opened.0 in
    let knows = c.in_ok-finished.finished.pass.knows in
    IfOk-weaker c.finish.result (λ (d : ClosedView). IsEnd hall.terms knows d.packages d.locks) (λ (d : ClosedView). IsWholeRun c.args.image.now c.args.options d)
    (λ d end. whole c.args.image.now c.args.options hall knows d c.requires.hall end) c.finish.ensures.end

-- the workers' lists of ready threads have room
has_room : (x : Shown) (o : Options) (n room : ℕ) (ready : List ReadyView) → n ≡ length x.entries → AreCrew o.workers n room ready → ((sections : ℕ) → CanHave o.fuel sections → min (n * sections) 256 ≤ room) → HaveRoom x o ready
has_room x o n room ready count crew enough = record {
  room = room;
  crew = subst (λ (m : ℕ). AreCrew o.workers m room ready) count crew;
  enough = λ s can. subst (λ (m : ℕ). min (m * s) 256 ≤ room) count (enough s can);
}

pub returns-clause-crew : goal.returns-clause-crew
returns-clause-crew g c =
    closed_so _ c.args.image.now c.args.options _ c.in_ok-ready.ready.items c.in_ok-finished.finished.pass c.in_ok-finished.finished.all_done c.finish.result c.requires.hall (has_room _ _ _ _ _ c.threads-threads.ensures.value c.in_ok-ready.ensures c.room_of-room.ensures.enough) c.in_ok-finished.ensures c.finish.ensures.end c.finish.ensures.done

pub returns-clause-runs : goal.returns-clause-runs
returns-clause-runs g c lined =
    closed_run _ c.args.image.now c.args.options _ c.in_ok-ready.ready.items c.in_ok-finished.finished.pass c.in_ok-finished.finished.all_done c.finish.result c.requires.hall (has_room _ _ _ _ _ c.threads-threads.ensures.value c.in_ok-ready.ensures c.room_of-room.ensures.enough) c.in_ok-finished.ensures c.finish.ensures.end c.finish.ensures.done lined
