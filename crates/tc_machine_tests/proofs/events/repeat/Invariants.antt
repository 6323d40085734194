use Rattle.tc_core.specs.View.{IsCoreOf}
use Rattle.tc_machine_tests.proofs.events.repeat.Given as goal

abbrev pub invariant-loop-done : goal.invariant-loop-done
invariant-loop-done l = IsCoreOf l.image l.core
