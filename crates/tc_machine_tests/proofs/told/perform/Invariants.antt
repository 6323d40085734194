use Rattle.tc_told.specs.View.{IsWriterOf}
use Rattle.tc_machine_tests.proofs.told.perform.Given as goal

abbrev pub invariant-loop-done : goal.invariant-loop-done
invariant-loop-done l = IsWriterOf l.image l.writer
