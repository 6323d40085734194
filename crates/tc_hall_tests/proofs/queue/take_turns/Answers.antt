use Rattle.std.proofs.Common.{rules, ◌++◌, ◌∷◌, [], ap, ◌∙◌}
use Rattle.tc_queue.specs.declared.turn.QueueCall.TheVariants.{Enter}
use Rattle.tc_queue.specs.declared.turn.Entered.{Entered}
use Rattle.tc_queue.specs.View.{OwnView}
use Rattle.tc_queue.proofs.Marks.{just_entered}
use Rattle.tc_hall_tests.proofs.queue.take_turns.Goals as goal

pub link-requires : goal.link-requires
link-requires g c = record {
  seat = search rules;
  turns = search rules;
  entered = just_entered c.enter-2.new.seat.log.calls c.args.one.now.log.calls c.turn-second.result c.in-Behind.before
      (ap (λ (s : OwnView). s.log.calls) c.enter-2.ensures.call ∙ ap (λ (a : Entered). c.args.one.now.log.calls ++ Enter c.turn-second.result a ∷ []) c.in-Behind.is);
}
