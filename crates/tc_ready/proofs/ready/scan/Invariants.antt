use Rattle.tc_hall.specs.Steps.{IsSamePass}
use Rattle.tc_ready.specs.Scan.{SawNone}
use Rattle.tc_ready.proofs.ready.scan.Given as goal

abbrev pub invariant-loop-t : goal.invariant-loop-t
invariant-loop-t l = IsSamePass l.initial.pass l.pass × SawNone l.t l.initial.pass.knows l.pass.knows
