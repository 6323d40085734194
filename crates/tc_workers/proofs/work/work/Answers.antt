use Rattle.std.proofs.Common.{rules, None, true, false, subst, ◌∙◌}
use Rattle.tc_workers.specs.Turns.{Steps, TakesStep, more, none}
use Rattle.tc_workers.specs.Worker.{IsAtWork, WorkerSteps, view_of}
use Rattle.tc_workers.specs.declared.step.Step.{Step}
use Rattle.tc_workers.proofs.Passes.{still_same, still_then}
use Rattle.tc_workers.proofs.Turning.{came_to, came_to_end}
use Rattle.tc_workers.proofs.work.work.Goals as goal

pub loop-init : goal.loop-init
loop-init g c =
    let still = still_same c.args.worker.desk.pass in
    let steps : Steps c.args.bench.now (view_of c.args.worker) None (view_of c.args.worker) = none in
    search rules

pub loop-preserved : goal.loop-preserved
loop-preserved g c =
    let b = c.args.bench.now in
    let w = view_of c.args.worker in
    let x = view_of c.loop.worker in
    let z = view_of c.make_step.new.worker in
    let came = came_to b w x z c.loop.hand c.make_step.result c.loop.invariant.2 c.loop.invariant.3.ready c.loop.invariant.4 c.make_step.ensures in
    let y = came.y in
    let next = c.in-On.next in
    let on = subst (λ (s : Step). WorkerSteps b y z s) c.in-On.is came.did.0 in
    let took = subst (λ (s : Step). TakesStep b came.at y z s) c.in-On.is came.did.1 in
    let still = still_then c.args.worker.desk.pass y.desk.pass z.desk.pass came.still on.desk.still in
    let work : IsAtWork b next z = record { desk = on.desk.after; ready = on.ready ∙ came.ready } in
    let steps : Steps b w next z = more came.at next y z came.steps took in
    search rules

pub returns-in-AllDone : goal.returns-in-AllDone
returns-in-AllDone g c =
    let end = came_to_end c.args.bench.now (view_of c.args.worker) (view_of c.loop.worker) (view_of c.make_step.new.worker) c.loop.hand c.make_step.result c.finished.result.pass true c.finished.result.all_done
    c.loop.invariant.2 c.loop.invariant.3.ready c.loop.invariant.4 c.make_step.ensures c.in-AllDone.is c.finished.ensures.pass c.finished.ensures.done in
    record { finished = end.0; worked = end.1 }

pub returns-in-Stopped : goal.returns-in-Stopped
returns-in-Stopped g c =
    let end = came_to_end c.args.bench.now (view_of c.args.worker) (view_of c.loop.worker) (view_of c.make_step.new.worker) c.loop.hand c.make_step.result c.finished-in-Stopped.result.pass false c.finished-in-Stopped.result.all_done
    c.loop.invariant.2 c.loop.invariant.3.ready c.loop.invariant.4 c.make_step.ensures c.in-Stopped.is c.finished-in-Stopped.ensures.pass c.finished-in-Stopped.ensures.done in
    record { finished = end.0; worked = end.1 }
