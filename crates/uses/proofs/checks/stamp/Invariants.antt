use Rattle.std.proofs.Common.{◌≡◌, length, map, take}
use Rattle.std.specs.List.{range_with_len}
use Rattle.uses.proofs.checks.stamp.Given as goal

abbrev pub invariant-loop-i : goal.invariant-loop-i
invariant-loop-i l = record {
  stamps : map (λ b. b.stamp) (take l.i l.blocks) ≡ range_with_len 0 l.i;
  count : length l.blocks ≡ length l.fn.blocks;
}
