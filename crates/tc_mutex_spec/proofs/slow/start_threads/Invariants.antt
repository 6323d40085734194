use Rattle.std.proofs.Common.{◌≡◌, map}
use Rattle.std.specs.List.{range_with_len}
use Rattle.tc_turn.specs.Turn.{thread_of, thread_at_start}
use Rattle.tc_mutex_spec.proofs.slow.start_threads.Given as goal

abbrev pub invariant-loop-t : goal.invariant-loop-t
invariant-loop-t l = map thread_of l.threads.items ≡ map (thread_at_start l.image l.fuel) (range_with_len 0 l.t)
