use Rattle.tc_journal.proofs.Batching.{cause_or, any_worker}
use Rattle.tc_journal.proofs.law.sections.Goals as goal

pub returns-clause-causes : goal.returns-clause-causes
returns-clause-causes c = cause_or

pub returns-clause-any_worker : goal.returns-clause-any_worker
returns-clause-any_worker c = any_worker
