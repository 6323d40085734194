use Rattle.std.proofs.Common.{◌≡◌, map}
use Rattle.std.specs.List.{range_with_len}
use Rattle.tc_turn.specs.Turn.{mutex_at_start}
use Rattle.tc_mutex_spec.proofs.locks.SlowLocks.start.Given as goal

abbrev pub invariant-loop-number : goal.invariant-loop-number
invariant-loop-number l = l.locks.items ≡ map (mutex_at_start l.image) (range_with_len 0 l.number)
