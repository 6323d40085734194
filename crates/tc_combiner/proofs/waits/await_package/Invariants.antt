use Rattle.tc_combiner.proofs.Vocabulary.{Waits}
use Rattle.tc_combiner.specs.Stances.{SameStances}
use Rattle.tc_combiner.proofs.waits.await_package.Given as goal

abbrev pub invariant-loop : goal.invariant-loop
invariant-loop g l = (goal.iterator-loop g).can_next l.iterator' × (goal.iterator-loop g).is_finite l.iterator' × Waits l.fn.pass l.pass × SameStances l.fn.hall.terms l.fn.pass.knows l.pass.knows
