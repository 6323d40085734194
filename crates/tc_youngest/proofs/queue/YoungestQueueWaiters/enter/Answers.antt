use Rattle.std.proofs.Common.{ap, refl}
use Rattle.tc_queue.specs.View.{OwnView}
use Rattle.tc_queue.specs.declared.turn.Entered.TheVariants.{Behind}
use Rattle.tc_queue.proofs.Marks.{may_now}
use Rattle.tc_youngest.proofs.queue.YoungestQueueWaiters.enter.Goals as goal

pub returns-clause-may : goal.returns-clause-may
returns-clause-may g c = may_now c.args.seat.now.log c.note-2.new.seat.log c.args.turn c.args.turn c.args.turn (Behind c.args.turn) (ap (λ (s : OwnView). s.log) c.note-2.ensures) refl refl
