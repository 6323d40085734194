use Rattle.std.proofs.Common.{All, ◌-◌, ◌≤◌, ◌^◌}
use Rattle.tc_elf.specs.Table.{IsPiece, PlacesTell}
use Rattle.tc_elf.proofs.places.places.Given as goal

abbrev pub invariant-pieces : goal.invariant-pieces
invariant-pieces l = record {
  tells : PlacesTell l.image l.places.items;
  pieces : All (IsPiece l.image) l.places.items;
  fits : l.next ≤ 2 ^ 32;
}

abbrev pub decreases-pieces : goal.decreases-pieces
decreases-pieces l = 2 ^ 32 - l.next
