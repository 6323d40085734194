use Rattle.std.proofs.Common.{refl, ap}
use Rattle.tc_queue.specs.View.{OwnView}
use Rattle.tc_queue.proofs.Marks.{may_now}
use Rattle.tc_queue.proofs.waiters.QueueWaiters.enter.Goals as goal

pub returns-in-Behind-clause-may : goal.returns-in-Behind-clause-may
returns-in-Behind-clause-may c = may_now c.args.seat.now.log c.enter.new.seat.log c.args.turn c.in-Behind.before c.in-Behind.before c.enter.result (ap (λ (s : OwnView). s.log) c.enter.ensures.call) c.in-Behind.is refl
