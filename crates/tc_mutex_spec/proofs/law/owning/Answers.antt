use Rattle.tc_mutex_spec.proofs.Owners.{owner_is, no_owner}
use Rattle.tc_mutex_spec.proofs.law.owning.Goals as goal

pub returns-clause-owner : goal.returns-clause-owner
returns-clause-owner c = owner_is

pub returns-clause-free : goal.returns-clause-free
returns-clause-free c = no_owner
