use Rattle.std.proofs.Common.{subst}
use Rattle.tc_queue.specs.View.{OwnView}
use Rattle.tc_queue.specs.Calls.{AreBehind}
use Rattle.tc_queue.proofs.queue.QueueSeat.knows.Goals as goal

pub returns : goal.returns
returns c = subst (λ (s : OwnView). AreBehind s.log.threads s.log.calls) c.self.view_is c.self.invariant.1
