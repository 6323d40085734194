use Rattle.std.proofs.Common.{refl}
use Rattle.tc_order.proofs.in_hall.InHallOrder.next.Goals as goal

pub next-next-requires-clause-stands : goal.next-next-requires-clause-stands
next-next-requires-clause-stands g c = c.requires.stands c.args.self.now.lock refl
