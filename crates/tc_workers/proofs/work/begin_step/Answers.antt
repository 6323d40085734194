use Rattle.std.proofs.Common.{Bool, rules, refl, subst, None, Some}
use Rattle.tc_workers.specs.Worker.{LookedAtStop, view_of}
use Rattle.tc_workers.proofs.Desks.{fit_back}
use Rattle.tc_workers.proofs.Leaving.{left_still, may_leave}
use Rattle.tc_workers.proofs.Turning.{at_work_looked, went_on}
use Rattle.tc_workers.proofs.work.begin_step.Goals as goal

pub leave-requires-after_bounds : goal.leave-requires-after_bounds
leave-requires-after_bounds g c κs within =
    let d = c.args.worker.now.desk in
    may_leave c.args.bench.now c.args.hand d c.sees_stop.new.desk c.sees_stop.result c.requires.work.desk.seat (fit_back d.pass.knows.image d.pass.knows.worker c.args.hand c.requires.work.desk.fit) c.sees_stop.ensures c.if-sees_stop.true

pub find-requires-clause-work : goal.find-requires-clause-work
find-requires-clause-work g c κs within = at_work_looked c.args.bench.now c.args.hand None (view_of c.args.worker.now) c.sees_stop.new.desk c.sees_stop.result c.requires.work c.in-None.is c.sees_stop.ensures

pub returns-then-sees_stop-clause-steps : goal.returns-then-sees_stop-clause-steps
returns-then-sees_stop-clause-steps g c =
    let still = left_still c.args.hand c.args.worker.now.desk c.sees_stop.new.desk c.leave.new.desk c.sees_stop.result c.sees_stop.ensures c.leave.ensures in
    record { desk = record { still = still; after = (c.leave.ensures.left, c.leave.ensures.stop) }; ready = search rules }

pub returns-in-None-clause-takes : goal.returns-in-None-clause-takes
returns-in-None-clause-takes g c = went_on c.args.bench.now c.args.hand None (view_of c.args.worker.now) (view_of c.find.new.worker) c.sees_stop.new.desk c.sees_stop.result c.find.result c.sees_stop.ensures c.if-sees_stop.false c.in-None.is c.find.ensures.found

pub returns-in-Some-clause-steps : goal.returns-in-Some-clause-steps
returns-in-Some-clause-steps g c =
    let work = at_work_looked c.args.bench.now c.args.hand (Some c.in-Some.«package») (view_of c.args.worker.now) c.sees_stop.new.desk c.sees_stop.result c.requires.work c.in-Some.is c.sees_stop.ensures in
    record { desk = record { still = search rules; after = work.desk }; ready = refl }

pub returns-in-Some-clause-takes : goal.returns-in-Some-clause-takes
returns-in-Some-clause-takes g c = record {
  hand_is = c.in-Some.is;
  saw = record { desk = subst (λ (a : Bool). LookedAtStop a c.args.worker.now.desk c.sees_stop.new.desk) c.if-sees_stop.false c.sees_stop.ensures; ready = refl };
}
