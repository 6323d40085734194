use Rattle.std.proofs.Common.{◌≡◌, ◌+◌, length}
use Rattle.tc_history_tests.proofs.profile.add_all.Given as goal

abbrev pub invariant-loop-block : goal.invariant-loop-block
invariant-loop-block g l =
    (length l.profile.history ≡ length l.fn.profile.history + l.block-index)
    × (l.profile.threads ≡ l.fn.profile.threads) × (l.profile.locks ≡ l.fn.profile.locks)
