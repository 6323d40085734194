use Rattle.tc_journal.proofs.Locks.{Below}
use Rattle.tc_journal.proofs.line.put_held.Given as goal

abbrev pub invariant-loop-lock : goal.invariant-loop-lock
invariant-loop-lock l = Below l.fn.held l.left l.line l.fn.line

abbrev pub decreases-loop-lock : goal.decreases-loop-lock
decreases-loop-lock l = l.left
