use Rattle.std.proofs.Common.{rules, ap}
use Rattle.tc_context.specs.View.{bare}
use Rattle.tc_replay.proofs.Handing.{brought_with}
use Rattle.tc_replay.proofs.judge.bring_home.Goals as goal

pub returns : goal.returns
returns c = record {
  at = λ image terms before at.
      brought_with image terms before c.args.home.now c.put_in.new.self c.args.«package».now c.take_out-state.new.self c.args.lock c.take_out-state.result
      at c.take_out-state.ensures.lock c.take_out-state.ensures.rest c.take_out-state.ensures.is c.take_out-state.ensures.locks c.put_in.ensures.locks;
  granted = search rules;
  set = search rules;
  guest = search rules;
  rest = ap bare c.take_out-state.ensures.is;
}
