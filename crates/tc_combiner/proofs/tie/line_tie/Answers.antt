use Rattle.tc_combiner.proofs.Ties.{enter_ties, leave_ties}
use Rattle.tc_combiner.proofs.tie.line_tie.Goals as goal

pub returns-clause-enter : goal.returns-clause-enter
returns-clause-enter c = enter_ties c.line.ensures.enter

pub returns-clause-leave : goal.returns-clause-leave
returns-clause-leave c = leave_ties c.line.ensures.leave
