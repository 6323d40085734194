use Rattle.tc_elf.proofs.Images.{subset-from}
use Rattle.tc_elf.proofs.load.parts.Goals as goal

pub returns-clause-loaded : goal.returns-clause-loaded
returns-clause-loaded c =
    subset-from c.args.bytes.now c.in_ok-segments.segments.items c.in_ok-ranges.ranges.items c.in_ok-layout.layout
    c.in_ok-segments.ensures.value
    c.in_ok-segments.ensures.header
    (cc (c.segment_refusal.ensures, c.deref.ensures.value, c.in_default.is))
    (cc (c.in_ok-layout.ensures.value, c.deref-2.ensures.value))
    (cc (c.in_ok-ranges.ensures, c.deref-3.ensures.value))
    (cc (c.layout_refusal.ensures, c.deref-4.ensures.value, c.in_default-layout_refusal.is))
