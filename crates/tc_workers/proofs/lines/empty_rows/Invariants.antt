use Rattle.std.proofs.Common.{◌≡◌, ◌≤◌, [], All, length, vec_capacity}
use Rattle.tc_workers.proofs.lines.empty_rows.Given as goal

abbrev pub invariant-loop-worker : goal.invariant-loop-worker
invariant-loop-worker g l = record {
  count : length l.rows.items ≡ l.worker;
  empty : All (λ row. row.items ≡ []) l.rows.items;
  room : l.workers ≤ vec_capacity l.rows;
}
