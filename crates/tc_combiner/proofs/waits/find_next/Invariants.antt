use Rattle.std.proofs.Common.{ℕ, []}
use Rattle.tc_combiner.proofs.Vocabulary.{Acts, LooksBetween}
use Rattle.tc_combiner.specs.Stances.{SameStances}
use Rattle.tc_combiner.proofs.waits.find_next.Given as goal

abbrev pub invariant-loop : goal.invariant-loop
invariant-loop g l = (goal.iterator-loop g).can_next l.iterator' × (goal.iterator-loop g).is_finite l.iterator' × Acts [] [] [] l.fn.pass l.pass × LooksBetween l.fn.own (g.Q.Order.seen l.fn.seat) (g.Q.Order.seen l.seat) l.fn.pass.knows l.pass.knows × ((i : ℕ) → g.Q.Order.of l.fn.queue i → SameStances l.fn.hall.terms l.fn.pass.knows l.pass.knows)
