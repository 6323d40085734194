use Rattle.std.proofs.Common.{rules, ◌++◌, ◌∷◌, [], ap, ◌∙◌}
use Rattle.tc_queue.specs.declared.turn.QueueCall.TheVariants.{Enter}
use Rattle.tc_queue.specs.declared.turn.Entered.{Entered}
use Rattle.tc_queue.proofs.Marks.{just_entered}
use Rattle.tc_hall.specs.declared.board.Knows.{Knows}
use Rattle.tc_hall.specs.Lines.{lines_of}
use Rattle.tc_order.proofs.Lists.{lines_more}
use Rattle.tc_hall.proofs.Stops.{after_stop, stop_called}
use Rattle.tc_hall_tests.proofs.lines.take_turns.Goals as goal

pub link-requires-clause-may : goal.link-requires-clause-may
link-requires-clause-may g c = record {
  may = search rules;
  behind = search rules;
  entered = just_entered (lines_of 0 c.enter-2.new.pass.knows.calls) (lines_of 0 c.args.one.now.knows.calls) c.turn-second.result c.in-Behind.before
      (ap (λ (v : Knows). lines_of 0 v.calls) c.enter-2.ensures.call
      ∙ (lines_more 0 c.args.one.now.knows.calls (Enter c.turn-second.result c.enter-2.result) ∙ ap (λ (a : Entered). lines_of 0 c.args.one.now.knows.calls ++ Enter c.turn-second.result a ∷ []) c.in-Behind.is));
}

pub enter-requires-clause-stands : goal.enter-requires-clause-stands
enter-requires-clause-stands g c = after_stop c.args.hall.now.terms c.args.zero.now.knows _ c.requires.stopped.0

pub enter-requires-2-clause-stands : goal.enter-requires-2-clause-stands
enter-requires-2-clause-stands g c = after_stop c.args.hall.now.terms c.args.one.now.knows _ c.requires.stopped.1

pub next-requires-clause-stands : goal.next-requires-clause-stands
next-requires-clause-stands g c =
    let entered = stop_called c.args.zero.now.knows c.enter.new.pass.knows _ c.enter.ensures.call c.requires.stopped.0 in
    after_stop c.args.hall.now.terms c.enter.new.pass.knows _ entered

pub leave-requires-clause-stands : goal.leave-requires-clause-stands
leave-requires-clause-stands g c =
    let entered = stop_called c.args.zero.now.knows c.enter.new.pass.knows _ c.enter.ensures.call c.requires.stopped.0 in
    let asked = stop_called c.enter.new.pass.knows c.next.new.pass.knows _ c.next.ensures.call entered in
    after_stop c.args.hall.now.terms c.next.new.pass.knows _ asked

pub link-requires-clause-stands : goal.link-requires-clause-stands
link-requires-clause-stands g c =
    let entered_2 = stop_called c.args.one.now.knows c.enter-2.new.pass.knows _ c.enter-2.ensures.call c.requires.stopped.1 in
    after_stop c.args.hall.now.terms c.enter-2.new.pass.knows _ entered_2

pub next-requires-2-clause-stands : goal.next-requires-2-clause-stands
next-requires-2-clause-stands g c =
    let entered = stop_called c.args.zero.now.knows c.enter.new.pass.knows _ c.enter.ensures.call c.requires.stopped.0 in
    let asked = stop_called c.enter.new.pass.knows c.next.new.pass.knows _ c.next.ensures.call entered in
    let left = stop_called c.next.new.pass.knows c.leave.new.pass.knows _ c.leave.ensures.call asked in
    after_stop c.args.hall.now.terms c.leave.new.pass.knows _ left

pub next-requires-3-clause-stands : goal.next-requires-3-clause-stands
next-requires-3-clause-stands g c =
    let entered_2 = stop_called c.args.one.now.knows c.enter-2.new.pass.knows _ c.enter-2.ensures.call c.requires.stopped.1 in
    let linked = stop_called c.enter-2.new.pass.knows c.link.new.pass.knows _ c.link.ensures.call entered_2 in
    after_stop c.args.hall.now.terms c.link.new.pass.knows _ linked

pub leave-requires-2-clause-stands : goal.leave-requires-2-clause-stands
leave-requires-2-clause-stands g c =
    let entered_2 = stop_called c.args.one.now.knows c.enter-2.new.pass.knows _ c.enter-2.ensures.call c.requires.stopped.1 in
    let linked = stop_called c.enter-2.new.pass.knows c.link.new.pass.knows _ c.link.ensures.call entered_2 in
    let asked_3 = stop_called c.link.new.pass.knows c.next-3.new.pass.knows _ c.next-3.ensures.call linked in
    after_stop c.args.hall.now.terms c.next-3.new.pass.knows _ asked_3

pub enter-requires-3-clause-stands : goal.enter-requires-3-clause-stands
enter-requires-3-clause-stands g c =
    let entered = stop_called c.args.zero.now.knows c.enter.new.pass.knows _ c.enter.ensures.call c.requires.stopped.0 in
    let asked = stop_called c.enter.new.pass.knows c.next.new.pass.knows _ c.next.ensures.call entered in
    let left = stop_called c.next.new.pass.knows c.leave.new.pass.knows _ c.leave.ensures.call asked in
    let asked_2 = stop_called c.leave.new.pass.knows c.next-2.new.pass.knows _ c.next-2.ensures.call left in
    after_stop c.args.hall.now.terms c.next-2.new.pass.knows _ asked_2
