use Rattle.std.proofs.Common.{◌≡◌, ◌+◌, ◌≤◌, [], length, All, vec_capacity}
use Rattle.tc_queue.specs.View.{OwnView}
use Rattle.tc_queue.specs.Order.{first_log}
use Rattle.tc_queue.proofs.queue.Queue.new.Given as goal

abbrev pub invariant-loop-seated : goal.invariant-loop-seated
invariant-loop-seated l = (l.first.table_id ≡ l.board.shared.table_id) × (l.first.me ≡ (first_log l.threads, [])) × (length l.made.items + 1 ≡ l.seated) × (l.seats ≤ vec_capacity l.made)
    × All (λ (s : OwnView). (s.table ≡ l.board.shared.table_id) × (s.log ≡ first_log l.threads)) l.made.items
