use Rattle.std.proofs.Common.{◌≡◌, map, take}
use Rattle.tc_journal.proofs.history.lent.Given as goal

abbrev pub invariant-loop-log : goal.invariant-loop-log
invariant-loop-log l = map (λ log. log.now) l.parts.items ≡ map (λ log. log.items) (take l.log-index l.logs)
