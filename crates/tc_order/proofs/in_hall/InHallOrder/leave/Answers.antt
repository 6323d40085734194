use Rattle.std.proofs.Common.{refl}
use Rattle.tc_order.proofs.in_hall.InHallOrder.leave.Goals as goal

pub leave-requires-clause-stands : goal.leave-requires-clause-stands
leave-requires-clause-stands g c = c.requires.stands c.args.self.now.lock refl
