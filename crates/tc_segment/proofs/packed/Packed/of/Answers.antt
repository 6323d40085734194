use Rattle.tc_segment.proofs.Packing.{packed_is, are_packed}
use Rattle.tc_segment.proofs.packed.Packed.of.Goals as goal

pub invariant_of-result : goal.invariant_of-result
invariant_of-result c = are_packed _ _ c.args.regs.now c.pack-end.ensures

pub returns : goal.returns
returns c = packed_is _ _ c.args.regs.now c.pack-end.ensures
