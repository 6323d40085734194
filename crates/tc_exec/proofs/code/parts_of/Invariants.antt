use Rattle.tc_exec.specs.Code.{PartsTell}
use Rattle.tc_exec.proofs.code.parts_of.Given as goal

abbrev pub invariant-each : goal.invariant-each
invariant-each l = PartsTell l.image l.parts.items
