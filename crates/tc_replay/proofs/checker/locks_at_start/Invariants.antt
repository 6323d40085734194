use Rattle.std.proofs.Common.{◌≡◌, ℕ, nat_lt}
use Rattle.std.specs.Prelude.{Some, None, if◌then◌else◌}
use Rattle.tc_context.specs.Locks.{lock_in}
use Rattle.tc_replay.specs.Taken.{lenient_state}
use Rattle.tc_replay.proofs.checker.locks_at_start.Given as goal

abbrev pub invariant-loop-lock : goal.invariant-loop-lock
invariant-loop-lock l = record {
  so_far : (k : ℕ) → lock_in l.home k ≡ (if nat_lt k l.lock then Some (lenient_state l.image l.terms.limit k) else None);
}
