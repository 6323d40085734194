use Rattle.std.proofs.Common.{◌≡◌, ℕ, length}
use Rattle.tc_core.specs.Core.{first_custody}
use Rattle.tc_core.specs.View.{custody_at}
use Rattle.tc_core.proofs.custodies.Custodies.new.Given as goal

abbrev pub invariant-loop : goal.invariant-loop
invariant-loop l = record {
  each : (k : ℕ) → custody_at l.custodies.items k ≡ first_custody;
  long : length l.custodies.items ≡ l.counter;
}
