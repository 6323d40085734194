use Rattle.tc_context.proofs.Vocabulary.{has}
use Rattle.tc_context.proofs.Rooms.{Given}
use Rattle.tc_context.proofs.locks.LockSet.room.Given as goal

abbrev pub invariant-loop-lock : goal.invariant-loop-lock
invariant-loop-lock l = Given (has l.fn.held) (has l.left) l.room l.fn.most l.fn.self

abbrev pub decreases-loop-lock : goal.decreases-loop-lock
decreases-loop-lock l = l.left
