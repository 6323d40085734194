use Rattle.tc_combiner.proofs.Acting.{acts_looked, tried_looked}
use Rattle.tc_combiner.proofs.Stances.{same_looked, saw_stop}
use Rattle.tc_combiner.proofs.calls.stopped.Goals as goal

pub returns-clause-acts : goal.returns-clause-acts
returns-clause-acts c = acts_looked c.stopped.result c.args.pass.now c.stopped.new.pass c.stopped.ensures.own c.stopped.ensures.stopped

pub returns-clause-tried : goal.returns-clause-tried
returns-clause-tried c = tried_looked c.args.pass.now.knows c.stopped.new.pass.knows c.stopped.ensures.stopped.word c.stopped.ensures.stopped.now

pub returns-clause-same : goal.returns-clause-same
returns-clause-same c = same_looked c.stopped.result c.args.hall.now.terms c.args.pass.now.knows c.stopped.new.pass.knows c.stopped.ensures.stopped

pub returns-clause-seen : goal.returns-clause-seen
returns-clause-seen c = saw_stop c.stopped.result c.args.pass.now.knows c.stopped.new.pass.knows c.stopped.ensures.stopped
