use Rattle.tc_mutex_spec.proofs.Progress.{run_few, can_run_on}
use Rattle.tc_mutex_spec.proofs.Completing.{complete_history}
use Rattle.tc_mutex_spec.proofs.law.progress.Goals as goal

pub returns-clause-few : goal.returns-clause-few
returns-clause-few c = run_few

pub returns-clause-ends : goal.returns-clause-ends
returns-clause-ends c = can_run_on

pub returns-clause-complete : goal.returns-clause-complete
returns-clause-complete c = complete_history
