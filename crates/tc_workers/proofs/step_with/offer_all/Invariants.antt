use Rattle.std.proofs.Common.{take}
use Rattle.tc_workers.specs.StepWith.{HasOffered}
use Rattle.tc_workers.proofs.step_with.offer_all.Given as goal

abbrev pub invariant-loop-t : goal.invariant-loop-t
invariant-loop-t l = HasOffered (take l.t-index l.threads) l.initial.ready l.ready
