use Rattle.tc_segment.proofs.Vocabulary.{◌≡◌, ◌^◌, ◌<◌, ◌≤◌, ◌++◌, length, take, drop, packed}
use Rattle.tc_segment.proofs.Packing.{picked}
use Rattle.tc_segment.proofs.packed.pack.Given as goal

-- the numbers that the mask still has come behind those that are packed
abbrev pub invariant-loop-left : goal.invariant-loop-left
invariant-loop-left l = record {
  room : l.end ≤ 33;
  buffer : length l.buffer ≡ 33;
  mask : l.left < 2 ^ 31;
  kept : take l.end l.buffer ++ picked l.left (drop 1 l.words) ≡ packed l.fn.regs;
}

abbrev pub decreases-loop-left : goal.decreases-loop-left
decreases-loop-left l = l.left
