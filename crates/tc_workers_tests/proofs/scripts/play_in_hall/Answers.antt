use Rattle.std.proofs.Common.{◌∙◌, sym}
use lib.ListN.{length-map}
use Rattle.tc_order.specs.declared.in_hall.InHall.{InHall}
use Rattle.tc_workers.proofs.Rows.{all_in_hall, in_order}
use Rattle.tc_workers_tests.proofs.scripts.play_in_hall.Goals as goal

pub play_at-requires-clause-fits : goal.play_at-requires-clause-fits
play_at-requires-clause-fits g c κs within =
    let lines = c.in_ok-lines.lines.queues.items in
    let count = sym (length-map lines (λ (l : InHall). l.seats)) ∙ c.in_ok-lines.ensures.lines.queues.count in
    all_in_hall c.in_ok-opened.opened.0.terms c.args.image.now lines c.in_ok-opened.ensures.lined c.in_ok-opened.ensures.hall.image count c.in_ok-lines.ensures.places

pub play_at-requires-clause-order : goal.play_at-requires-clause-order
play_at-requires-clause-order g c κs within = in_order c.in_ok-lines.lines.queues.items c.in_ok-lines.ensures.places
