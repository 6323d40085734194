use Rattle.tc_segment.proofs.Vocabulary.{◌≡◌, ◌+◌, ◌≤◌, length, drop, regs_at}
use Rattle.tc_segment.proofs.Packing.{Becomes}
use Rattle.tc_segment.proofs.packed.unpack.Given as goal

-- the registers below this number are there, and the others are usual and come
abbrev pub invariant-loop-number : goal.invariant-loop-number
invariant-loop-number l = record {
  reach : l.at ≤ l.place + 2 + l.number;
  count : length l.regs.words ≡ 32;
  pc : l.regs.pc ≡ (regs_at l.words l.place).pc;
  words : Becomes l.regs.words l.number l.mask (drop l.at l.words) (regs_at l.words l.place).words;
}
