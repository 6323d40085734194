use Rattle.tc_segment.proofs.Packing.{packed_is, are_packed}
use Rattle.tc_segment.proofs.packed.Packed.set.Goals as goal

pub invariant_of-self : goal.invariant_of-self
invariant_of-self c = are_packed _ _ c.args.regs.now c.pack-self-inside.ensures

pub returns : goal.returns
returns c = packed_is _ _ c.args.regs.now c.pack-self-inside.ensures
