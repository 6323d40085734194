use Rattle.std.proofs.Common.{map}
use Rattle.tc_combiner.proofs.Vocabulary.{Ending, change}
use Rattle.tc_combiner.proofs.ends.end_all.Given as goal

abbrev pub invariant-loop-lock : goal.invariant-loop-lock
invariant-loop-lock g l = Ending l.shared.hall.now.terms l.block (change l.fn.«package» l.«package») l.rest (change (map g.Q.Order.seen l.fn.seats) (map g.Q.Order.seen l.seats)) (change l.fn.parts l.parts) l.stopped

abbrev pub decreases-loop-lock : goal.decreases-loop-lock
decreases-loop-lock g l = l.rest
