use Rattle.std.proofs.Common.{◌≡◌}
use Rattle.tc_elf.specs.Elf.{segments_from}
use Rattle.tc_elf.proofs.header.segments_from.Given as goal

abbrev pub invariant-loop-i : goal.invariant-loop-i
invariant-loop-i l = l.segments.items ≡ segments_from l.bytes l.at l.i
