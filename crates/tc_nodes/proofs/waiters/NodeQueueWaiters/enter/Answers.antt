use Rattle.std.proofs.Common.{ap, [], ◌∷◌}
use Rattle.tc_queue.specs.Lines as line
use Rattle.tc_nodes.specs.declared.step.Entered.{Entered}
use Rattle.tc_nodes.specs.declared.step.LineStep.TheVariants.{Enter}
use Rattle.tc_nodes.specs.Lines.{entered_as, seat_as}
use Rattle.tc_nodes.proofs.Marks.{adds_line, just_entered}
use Rattle.tc_nodes.proofs.waiters.NodeQueueWaiters.enter.Goals as goal

pub returns-in-First-clause-call : goal.returns-in-First-clause-call
returns-in-First-clause-call c = adds_line c.args.seat.now c.enter.new.seat (Enter c.args.turn c.enter.result ∷ []) (line.Enter c.args.turn line.First) c.enter.ensures.call (ap (λ (a : Entered). line.Enter c.args.turn (entered_as a) ∷ []) c.in-First.is)

pub returns-in-Behind-clause-call : goal.returns-in-Behind-clause-call
returns-in-Behind-clause-call c = adds_line c.args.seat.now c.enter.new.seat (Enter c.args.turn c.enter.result ∷ []) (line.Enter c.args.turn (line.Behind c.in-Behind.place)) c.enter.ensures.call (ap (λ (a : Entered). line.Enter c.args.turn (entered_as a) ∷ []) c.in-Behind.is)

pub returns-in-Behind-clause-may : goal.returns-in-Behind-clause-may
returns-in-Behind-clause-may c =
    just_entered (seat_as c.args.seat.now).calls (seat_as c.enter.new.seat).calls c.args.turn c.in-Behind.place (ap (λ (s : line.SeatView). s.calls) (returns-in-Behind-clause-call c))
