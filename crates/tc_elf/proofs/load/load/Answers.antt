use Rattle.std.proofs.Common.{arith}
use Rattle.tc_elf.proofs.Images.{IsImage-parts}
use Rattle.tc_elf.proofs.load.load.Goals as goal

pub invariant_of-image : goal.invariant_of-image
invariant_of-image c = record {
  is_image = IsImage-parts c.args.bytes.now c.in_ok-ranges.ranges.items c.in_ok-ranges.layout _ c.layout.view_is c.in_ok-ranges.ensures.loaded;
  tells = λ k d below. absurd (omega arith);
  pieces = λ k d below. absurd (omega arith);
}

pub invariant_of-image-2 : goal.invariant_of-image-2
invariant_of-image-2 c = record {
  is_image = IsImage-parts c.args.bytes.now c.in_ok-ranges.ranges.items c.in_ok-ranges.layout _ c.layout.view_is c.in_ok-ranges.ensures.loaded;
  tells = c.in_ok-image-inside.ensures.tells;
  pieces = c.in_ok-image-inside.ensures.pieces;
}

pub returns-clause-kept : goal.returns-clause-kept
returns-clause-kept c = IsImage-parts c.args.bytes.now c.in_ok-ranges.ranges.items c.in_ok-ranges.layout _ c.layout.view_is c.in_ok-ranges.ensures.loaded
