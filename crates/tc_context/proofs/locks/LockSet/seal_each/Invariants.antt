use Rattle.tc_context.proofs.Vocabulary.{has, sealed_in}
use Rattle.tc_context.proofs.LockList.{Walked}
use Rattle.tc_context.proofs.locks.LockSet.seal_each.Given as goal

abbrev pub invariant-loop-lock : goal.invariant-loop-lock
invariant-loop-lock l = Walked (has l.block.held) (has l.left) (sealed_in (has l.block.held) l.block l.finish) l.fn.self l.self

abbrev pub decreases-loop-lock : goal.decreases-loop-lock
decreases-loop-lock l = l.left
