use Rattle.std.proofs.Common.{◌∙◌, length, map, sym, ap, subst}
use Rattle.tc_combiner.specs.View.{BenchView, DeskView}
use Rattle.tc_workers.specs.Crew.{IsHired}
use Rattle.tc_workers.specs.Worker.{worker_of}
use Rattle.tc_workers.proofs.Hiring.{new_worker}
use Rattle.tc_workers.proofs.crew.hire_one.Goals as goal

pub returns : goal.returns
returns g c = subst (λ (d : DeskView). IsHired c.args.bench.now c.args.pass.knows.worker (map g.Q.Order.seen c.args.seats.items) c.args.ready (worker_of d c.args.ready)) (sym c.new-desk.ensures)
    (new_worker c.args.bench.now c.args.pass (map g.Q.Order.seen c.args.seats.items) c.args.ready c.requires c.in_ok-sleepers.sleepers c.threads.result (c.threads.ensures.value ∙ ap (λ (v : BenchView). length v.image.entries) c.bench.view_is) c.in_ok-sleepers.ensures)
