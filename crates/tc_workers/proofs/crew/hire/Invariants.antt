use Rattle.std.proofs.Common.{◌≡◌, ◌+◌, ◌≤◌, length, map, vec_capacity}
use Rattle.tc_workers.specs.Crew.{AreForHire, AreHired}
use Rattle.tc_workers.specs.Worker.{view_of}
use Rattle.tc_workers.proofs.Rows.{AreFirst}
use Rattle.tc_workers.proofs.crew.hire.Given as goal

abbrev pub invariant-loop-hired : goal.invariant-loop-hired
invariant-loop-hired g l = record {
  left : length l.passes.items + l.hired ≡ l.hired-end;
  hire : AreForHire l.bench (λ row. map g.Q.Order.seen row.items) l.passes.items l.seats.items l.crew.items;
  seats : AreFirst l.seats.items l.fn.seats.items;
  ready : AreFirst l.crew.items l.fn.crew.items;
  hired : AreHired l.bench (map (λ row. map g.Q.Order.seen row.items) l.fn.seats.items) l.fn.crew.items l.hired (map view_of l.workers.items);
  room : l.hired-end ≤ vec_capacity l.workers;
}
