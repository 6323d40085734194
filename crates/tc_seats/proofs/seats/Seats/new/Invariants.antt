use Rattle.std.proofs.Common.{◌≡◌, ◌+◌, ◌≤◌, All, length, vec_capacity}
use Rattle.tc_queue.specs.View.{OwnView}
use Rattle.tc_seats.specs.Seats.{no_calls}
use Rattle.tc_seats.proofs.seats.Seats.new.Given as goal

abbrev pub invariant-loop-seated : goal.invariant-loop-seated
invariant-loop-seated l = record {
  first : l.first.table_id ≡ l.table.shared.table_id;
  log : l.first.me.0 ≡ no_calls l.threads;
  count : length l.made.items + 1 ≡ l.seated;
  room : l.seats ≤ vec_capacity l.made;
  seats : All (λ (s : OwnView). (s.table ≡ l.table.shared.table_id) × (s.log.threads ≡ l.threads)) l.made.items;
}
