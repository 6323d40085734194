use Rattle.std.proofs.Common.{rules, ◌++◌, ◌∷◌, [], ap, ◌∙◌}
use Rattle.tc_nodes.specs.declared.step.Entered.{Entered}
use Rattle.tc_nodes.specs.declared.step.LineStep.TheVariants.{Enter}
use Rattle.tc_nodes.specs.View.{NodeSeatView}
use Rattle.tc_nodes.proofs.Marks.{just_placed}
use Rattle.tc_hall_tests.proofs.nodes.take_turns.Goals as goal

pub link-requires : goal.link-requires
link-requires g c = record {
  seat = search rules;
  turn = search rules;
  entered = just_placed c.args.one.now.calls c.enter-2.new.seat.calls c.turn-second.result c.in-Behind.place
      (ap (λ (s : NodeSeatView). s.calls) c.enter-2.ensures.call ∙ ap (λ (a : Entered). c.args.one.now.calls ++ Enter c.turn-second.result a ∷ []) c.in-Behind.is);
}
