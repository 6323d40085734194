use Rattle.std.proofs.Common.{rules, length, ap}
use Rattle.tc_combiner.specs.View.{BenchView, DeskView}
use Rattle.tc_workers.proofs.Desks.{one_may, one_sealed, roomier_at}
use Rattle.tc_workers.proofs.step_with.seal_block.Goals as goal

pub returns-in_err-end-clause-sealed : goal.returns-in_err-end-clause-sealed
returns-in_err-end-clause-sealed g c =
    let at = roomier_at c.args.bench.now c.args.desk.now c.args.«package».now c.run_one.new.«package» c.requires.work c.in_err-end.ensures in
    search rules

pub commit-requires-clause-may : goal.commit-requires-clause-may
commit-requires-clause-may g c κs within = one_may c.args.bench.now c.in_ok-end.end c.args.«package».now c.run_one.new.«package» c.args.desk.now _ c.requires.work c.requires.want (ap (λ (b : BenchView). b.image) c.bench.view_is) c.in_ok-end.ensures

pub returns-clause-sealed : goal.returns-clause-sealed
returns-clause-sealed g c =
    let done = c.commit.ensures in
    one_sealed c.args.bench.now c.in_ok-end.end c.args.«package».now c.run_one.new.«package» c.args.desk.now _ c.requires.work c.requires.want (ap (λ (b : BenchView). b.image) c.bench.view_is) c.in_ok-end.ensures
    c.commit.result c.commit.new.«package» c.commit.new.self done.fits done.keeps done.sealed done.context (ap (λ (d : DeskView). d.aside) done.rest) (ap (λ (d : DeskView). length d.sleepers) done.rest)
