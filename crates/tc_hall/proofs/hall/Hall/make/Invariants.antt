use Rattle.std.proofs.Common.{◌≤◌, length, vec_capacity}
use Rattle.tc_hall.proofs.Vocabulary.{AreDealt, IsMaker}
use Rattle.tc_hall.proofs.hall.Hall.make.Given as goal

abbrev pub invariant-loop-worker : goal.invariant-loop-worker
invariant-loop-worker l = record {
  maker : IsMaker l.image (length l.image.entries) (length l.image.guards) l.workers l.worker l.board.shared.table_id l.first;
  made : AreDealt l.image (length l.image.entries) (length l.image.guards) l.worker l.board.shared.table_id l.passes.items;
  room : l.workers ≤ vec_capacity l.passes;
}
