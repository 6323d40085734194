use Rattle.tc_context.proofs.Vocabulary.{has, broken_in}
use Rattle.tc_context.proofs.LockList.{Walked}
use Rattle.tc_context.proofs.locks.LockSet.give_up.Given as goal

abbrev pub invariant-loop-lock : goal.invariant-loop-lock
invariant-loop-lock l = Walked (has l.fn.held) (has l.left) (broken_in (has l.fn.held)) l.fn.self l.self

abbrev pub decreases-loop-lock : goal.decreases-loop-lock
decreases-loop-lock l = l.left
