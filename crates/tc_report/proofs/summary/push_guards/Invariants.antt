use Rattle.std.proofs.Common.{◌≡◌, ◌++◌, ℕ, take}
use Rattle.std.specs.Prelude.{string_bytes}
use Rattle.tc_build.specs.Generator.{generated}
use Rattle.tc_report.specs.Report.{states_text}
use Rattle.tc_report.proofs.summary.push_guards.Given as goal

abbrev pub invariant-loop-number : goal.invariant-loop-number
invariant-loop-number l = (rounds : ℕ) → string_bytes l.out ≡ string_bytes l.fn.out ++ states_text (generated rounds) (take l.number l.locks)
