use Rattle.tc_context.proofs.Vocabulary.{has}
use Rattle.tc_context.proofs.Rooms.{Reserved}
use Rattle.tc_context.proofs.locks.LockSet.reserve.Given as goal

abbrev pub invariant-loop-lock : goal.invariant-loop-lock
invariant-loop-lock l = Reserved (has l.fn.held) (has l.left) l.fn.self l.self

abbrev pub decreases-loop-lock : goal.decreases-loop-lock
decreases-loop-lock l = l.left
