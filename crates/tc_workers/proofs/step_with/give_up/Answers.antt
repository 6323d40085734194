use Rattle.tc_workers.proofs.Leaving.{may_give_up}
use Rattle.tc_workers.proofs.step_with.give_up.Goals as goal

pub leave-requires-after_bounds : goal.leave-requires-after_bounds
leave-requires-after_bounds g c κs within = may_give_up c.args.bench.now c.args.desk.now c.pass.result.now c.stop.new.pass c.args.«package» c.pass.ensures.value c.stop.ensures.own c.stop.ensures.stop c.requires.work
