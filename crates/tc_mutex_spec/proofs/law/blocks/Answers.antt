use Rattle.tc_mutex_spec.proofs.BlocksAlike.{runs_same, runs_apart}
use Rattle.tc_mutex_spec.proofs.EntriesAlike.{entry_same}
use Rattle.tc_mutex_spec.proofs.law.blocks.Goals as goal

pub returns-clause-same : goal.returns-clause-same
returns-clause-same c = runs_same

pub returns-clause-apart : goal.returns-clause-apart
returns-clause-apart c = runs_apart

pub returns-clause-entry : goal.returns-clause-entry
returns-clause-entry c = λ image m n last b set k runs covers agree. entry_same image k set m n last b runs covers agree
