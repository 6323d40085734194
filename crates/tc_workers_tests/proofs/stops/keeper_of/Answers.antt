use Rattle.std.proofs.Common.{◌≡◌, ◌∙◌, List, ap, length, map, subst, sym}
use Rattle.tc_hall.specs.PassView.{PassView}
use Rattle.tc_queue.specs.Lines.{SeatView}
use Rattle.tc_combiner.specs.View.{AreSeats, DeskView}
use Rattle.tc_workers_tests.proofs.Playing.{at_bench}
use Rattle.tc_workers_tests.proofs.stops.keeper_of.Goals as goal

pub returns : goal.returns
returns g c =
    let b = c.args.bench.now in
    let fits = at_bench b c.args.player.desk c.args.player.hand c.args.player.end c.requires in
    let pass : c.finish.result.0 ≡ c.args.player.desk.pass = c.finish.ensures.pass ∙ ap (λ (d : DeskView). d.pass) c.back.ensures.rest in
    let seats : map g.Q.Order.seen c.finish.result.1.items ≡ c.args.player.desk.seats = c.finish.ensures.seats ∙ ap (λ (d : DeskView). d.seats) c.back.ensures.rest in
    record {
      at = record { hall = fits.hall; own = ap (λ (p : PassView). p.table) pass ∙ fits.own };
      queues = fits.count;
      count = ap (λ (ss : List SeatView). length ss) seats ∙ fits.seats;
      of = subst (AreSeats b.hall.terms b.queues) (sym seats) fits.of;
    }
