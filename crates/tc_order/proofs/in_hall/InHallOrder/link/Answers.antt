use Rattle.std.proofs.Common.{refl}
use Rattle.tc_order.proofs.in_hall.InHallOrder.link.Goals as goal

pub link-requires-clause-stands : goal.link-requires-clause-stands
link-requires-clause-stands c = c.requires.stands c.args.self.now.lock refl
