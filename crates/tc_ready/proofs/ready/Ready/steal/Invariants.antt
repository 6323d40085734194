use Rattle.std.proofs.Common.{◌≡◌}
use Rattle.tc_ready.proofs.ready.Ready.steal.Given as goal

abbrev pub invariant-loop-j : goal.invariant-loop-j
invariant-loop-j l = l.self ≡ l.initial.self
