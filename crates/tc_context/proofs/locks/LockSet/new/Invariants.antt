use Rattle.std.proofs.Common.{◌≡◌, replicate, None}
use Rattle.tc_context.proofs.locks.LockSet.new.Given as goal

abbrev pub invariant-loop-lock : goal.invariant-loop-lock
invariant-loop-lock l = l.places.items ≡ replicate l.lock None
