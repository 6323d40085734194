use Rattle.tc_nested.proofs.Allowing.{adopted, granted}
use Rattle.tc_nested.proofs.law.allowed.Goals as goal

pub returns-clause-adopted : goal.returns-clause-adopted
returns-clause-adopted c = adopted

pub returns-clause-granted : goal.returns-clause-granted
returns-clause-granted c = granted
