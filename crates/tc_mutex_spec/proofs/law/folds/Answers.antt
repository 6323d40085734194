use Rattle.tc_mutex_spec.proofs.Folding.{turns-append, run_from-is-turns, run_from-append}
use Rattle.tc_mutex_spec.proofs.law.folds.Goals as goal

pub returns-clause-joined : goal.returns-clause-joined
returns-clause-joined c = turns-append

pub returns-clause-flat : goal.returns-clause-flat
returns-clause-flat c = run_from-is-turns

pub returns-clause-more : goal.returns-clause-more
returns-clause-more c = run_from-append
