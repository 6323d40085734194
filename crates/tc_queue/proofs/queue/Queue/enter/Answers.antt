use Rattle.std.proofs.Common.{refl, ap, Some, None}
use Rattle.tc_queue.specs.View.{OwnView}
use Rattle.tc_queue.proofs.queue.Queue.enter.Goals as goal

pub returns-in-None-clause-step : goal.returns-in-None-clause-step
returns-in-None-clause-step c = record {
  found = None;
  tail = Some c.args.turn;
  in_range = c.in-None.ensures.tail;
  answers = refl;
  effect = ap (λ (s : OwnView). (Some c.args.turn, s.log)) c.in-None.ensures.call;
}

pub returns-in-Some-clause-step : goal.returns-in-Some-clause-step
returns-in-Some-clause-step c = record {
  found = Some c.in-Some.before;
  tail = Some c.args.turn;
  in_range = c.in-Some.ensures.tail;
  answers = refl;
  effect = ap (λ (s : OwnView). (Some c.args.turn, s.log)) c.in-Some.ensures.call;
}
