use Rattle.std.proofs.Common.{◌≡◌, ◌+◌, length}
use Rattle.tc_workers.proofs.Rows.{AreFirst, Dealing}
use Rattle.tc_workers.proofs.lines.deal.Given as goal

abbrev pub invariant-loop-dealt : goal.invariant-loop-dealt
invariant-loop-dealt g l = record {
  left : length l.seats.items + l.dealt ≡ l.dealt-end;
  firsts : AreFirst l.seats.items l.fn.seats.items;
  dealing : Dealing (λ row. row.items) l.fn.rows.items l.fn.seats.items (length l.seats.items) l.rows.items;
}
