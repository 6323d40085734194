use Rattle.tc_law.proofs.Following.{grown, obeyed, passed_on}
use Rattle.tc_law.proofs.law.follow.Goals as goal

pub returns-clause-grows : goal.returns-clause-grows
returns-clause-grows c = grown

pub returns-clause-limit : goal.returns-clause-limit
returns-clause-limit c = obeyed

pub returns-clause-passes : goal.returns-clause-passes
returns-clause-passes c = passed_on
