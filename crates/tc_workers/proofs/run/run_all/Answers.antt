use Rattle.std.proofs.Common.{◌∙◌, List, sym}
use Rattle.std.proofs.lemmas.Result.{IfOk-weaker}
use lib.ListN.{length-map}
use Rattle.tc_order.specs.declared.in_hall.InHall.{InHall}
use Rattle.tc_hall.specs.PassView.{ClosedView}
use Rattle.tc_queue.specs.Lines.{SeatView}
use Rattle.tc_workers.specs.Machine.{IsMachineRun}
use Rattle.tc_workers.proofs.Rows.{all_in_hall, in_order}
use Rattle.tc_workers.proofs.run.run_all.Goals as goal

pub run_opened-requires-clause-fits : goal.run_opened-requires-clause-fits
run_opened-requires-clause-fits g c κs within =
    let lines = c.in_ok-lines.lines.queues.items in
    let count = sym (length-map lines (λ (l : InHall). l.seats)) ∙ c.in_ok-lines.ensures.lines.queues.count in
    all_in_hall c.in_ok-opened.opened.0.terms c.args.image.now lines c.in_ok-opened.ensures.lined c.in_ok-opened.ensures.hall.image count c.in_ok-lines.ensures.places

pub run_opened-requires-clause-order : goal.run_opened-requires-clause-order
run_opened-requires-clause-order g c κs within = in_order c.in_ok-lines.lines.queues.items c.in_ok-lines.ensures.places

pub returns-clause-runs : goal.returns-clause-runs
returns-clause-runs g c =
    IfOk-weaker c.run_opened.result (λ (d : ClosedView). IsMachineRun c.args.image.now c.args.options _ d) (λ (d : ClosedView). (rows : List (List SeatView)) × IsMachineRun c.args.image.now c.args.options rows d)
    (λ d run. (_, run)) (c.run_opened.ensures.runs c.in_ok-opened.ensures.lined)
