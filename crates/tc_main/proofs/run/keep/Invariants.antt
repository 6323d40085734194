use Rattle.std.proofs.Common.{ℕ, ◌<◌, get_or}
use Rattle.tc_segment.specs.View.{LockView, IsSoundLock}
use Rattle.tc_main.proofs.run.keep.Given as goal

abbrev pub invariant-loop-lock : goal.invariant-loop-lock
invariant-loop-lock l = (k : ℕ) (d : LockView) → k < l.lock-index → IsSoundLock (get_or l.locks k d)
