use Rattle.tc_told.specs.View.{IsWriterOf}
use Rattle.tc_machine_tests.proofs.told.perform_row.Given as goal

abbrev pub invariant-loop-deed : goal.invariant-loop-deed
invariant-loop-deed l = IsWriterOf l.image l.writer
