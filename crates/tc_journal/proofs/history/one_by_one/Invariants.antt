use Rattle.std.proofs.Common.{◌≡◌, map, take}
use Rattle.std.specs.List.{flat_map}
use Rattle.tc_journal.proofs.history.one_by_one.Given as goal

abbrev pub invariant-loop-log : goal.invariant-loop-log
invariant-loop-log l = map (λ b. b.now) l.blocks.items ≡ flat_map (λ log. log.now) (take l.log-index l.logs)
