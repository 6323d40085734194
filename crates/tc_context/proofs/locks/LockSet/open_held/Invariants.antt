use Rattle.tc_context.proofs.Vocabulary.{has, opened_in}
use Rattle.tc_context.proofs.LockList.{Walked}
use Rattle.tc_context.proofs.locks.LockSet.open_held.Given as goal

abbrev pub invariant-loop-lock : goal.invariant-loop-lock
invariant-loop-lock l = Walked (has l.fn.held) (has l.left) (opened_in (has l.fn.held) l.start l.fuel) l.fn.self l.self

abbrev pub decreases-loop-lock : goal.decreases-loop-lock
decreases-loop-lock l = l.left
