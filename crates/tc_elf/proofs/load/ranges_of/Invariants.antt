use Rattle.std.proofs.Common.{◌≡◌, take}
use Rattle.tc_elf.specs.Elf.{ranges_of}
use Rattle.tc_elf.proofs.load.ranges_of.Given as goal

abbrev pub invariant-loop-segment : goal.invariant-loop-segment
invariant-loop-segment l = l.ranges.items ≡ ranges_of l.bytes (take l.segment-index l.segments)
