use Rattle.std.proofs.Common.{◌≡◌, length, map, take}
use Rattle.std.specs.List.{flat_map}
use Rattle.tc_journal.specs.History.{placed}
use Rattle.tc_journal.proofs.history.in_order.Given as goal

abbrev pub invariant-loop-log : goal.invariant-loop-log
invariant-loop-log l = (length l.history.items ≡ length l.initial.history.items) × (map (λ b. b.now) l.history.items ≡ placed (map (λ b. b.now) l.initial.history.items) (flat_map (λ log. log.now) (take l.log-index l.logs)))
