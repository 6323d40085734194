use Rattle.tc_core.proofs.Waiting.{is_brief}
use Rattle.tc_core.proofs.Work.{is_bounded}
use Rattle.tc_core.proofs.Ending.{goes, ceases, can_end}
use Rattle.tc_core.proofs.Backs.{busy, claims}
use Rattle.tc_core.proofs.alive.alive.Goals as goal

pub returns-clause-waits : goal.returns-clause-waits
returns-clause-waits c = is_brief

pub returns-clause-bounded : goal.returns-clause-bounded
returns-clause-bounded c = is_bounded

pub returns-clause-goes : goal.returns-clause-goes
returns-clause-goes c = goes

pub returns-clause-ceases : goal.returns-clause-ceases
returns-clause-ceases c = ceases

pub returns-clause-ends : goal.returns-clause-ends
returns-clause-ends c = can_end

pub returns-clause-busy : goal.returns-clause-busy
returns-clause-busy c = busy

pub returns-clause-claims : goal.returns-clause-claims
returns-clause-claims c = claims
