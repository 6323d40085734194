use Rattle.tc_mutex_spec.proofs.Local.{turn_apart, turn_same, turn_agree}
use Rattle.tc_mutex_spec.proofs.BlocksAlike.{covers_block}
use Rattle.tc_mutex_spec.proofs.law.locality.Goals as goal

pub returns-clause-covered : goal.returns-clause-covered
returns-clause-covered c = covers_block

pub returns-clause-apart : goal.returns-clause-apart
returns-clause-apart c = turn_apart

pub returns-clause-defined : goal.returns-clause-defined
returns-clause-defined c = turn_same

pub returns-clause-agree : goal.returns-clause-agree
returns-clause-agree c = turn_agree
