use Rattle.tc_combiner.proofs.PassedOn.{none_adopted}
use Rattle.tc_combiner.proofs.ends.end_one.Goals as goal

pub unreachable-requires : goal.unreachable-requires
unreachable-requires g c = none_adopted c.args.hall.now.terms c.args.released.lock c.args.released.block.now c.args.«package».now c.pass_on.new.«package» (g.Q.Order.seen c.args.seat.now) (g.Q.Order.seen c.pass_on.new.seat) c.args.parts.now c.pass_on.new.parts _ c.requires.ended (c.in-Adopted.ensures {u = tt}).passed
