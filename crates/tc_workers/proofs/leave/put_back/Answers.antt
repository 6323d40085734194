use Rattle.std.proofs.Common.{inl, subst, sym}
use Rattle.tc_hall.specs.PassView.{PassView}
use Rattle.tc_hall.specs.Steps.{HasStop}
use Rattle.tc_workers.proofs.Leaving.{back_some, may_put_back}
use Rattle.tc_workers.proofs.leave.put_back.Goals as goal

pub put-requires-clause-ready : goal.put-requires-clause-ready
put-requires-clause-ready g c = may_put_back c.args.bench.now c.args.desk.now c.args.«package» c.in-Some.«package» c.pass.result.now c.requires c.in-Some.is c.pass.ensures.value

pub put-requires-clause-stands : goal.put-requires-clause-stands
put-requires-clause-stands g c = λ lined. inl (subst (λ (p : PassView). HasStop p.knows) (sym c.pass.ensures.value) c.requires.stop)

pub returns-in-Some : goal.returns-in-Some
returns-in-Some g c = back_some c.args.bench.now c.args.desk.now c.args.«package» c.in-Some.«package» c.pass.result.now c.requires c.in-Some.is c.pass.ensures.value c.put.new.pass c.put.ensures.own c.put.ensures.put
