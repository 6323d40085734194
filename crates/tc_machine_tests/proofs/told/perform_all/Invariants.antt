use Rattle.tc_told.specs.View.{IsWriterOf}
use Rattle.tc_machine_tests.proofs.told.perform_all.Given as goal

abbrev pub invariant-loop-number : goal.invariant-loop-number
invariant-loop-number g l = IsWriterOf l.image l.writer
