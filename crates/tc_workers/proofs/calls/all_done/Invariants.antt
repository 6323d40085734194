use Rattle.tc_workers.specs.Worker.{IsUnmoved, SawEnded}
use Rattle.tc_workers.proofs.calls.all_done.Given as goal

abbrev pub invariant-loop-t : goal.invariant-loop-t
invariant-loop-t l = IsUnmoved l.initial.pass l.pass × SawEnded l.t l.initial.pass.knows l.pass.knows
