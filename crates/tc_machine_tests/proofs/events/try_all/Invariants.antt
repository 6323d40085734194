use Rattle.tc_core.specs.View.{IsCoreOf}
use Rattle.tc_machine_tests.proofs.events.try_all.Given as goal

abbrev pub invariant-loop-number : goal.invariant-loop-number
invariant-loop-number g l = IsCoreOf l.image l.core
