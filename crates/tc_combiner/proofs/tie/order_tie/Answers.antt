use Rattle.tc_combiner.proofs.Tails.{pass_tie, order_tie, turns_tie, next_tie}
use Rattle.tc_combiner.proofs.tie.order_tie.Goals as goal

pub returns-clause-pass : goal.returns-clause-pass
returns-clause-pass c = pass_tie

pub returns-clause-order : goal.returns-clause-order
returns-clause-order c = order_tie c.line.ensures.enter c.line.ensures.leave

pub returns-clause-turns : goal.returns-clause-turns
returns-clause-turns c = turns_tie

pub returns-clause-next : goal.returns-clause-next
returns-clause-next c = next_tie
