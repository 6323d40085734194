use Rattle.tc_told.proofs.Complete.{has_history}
use Rattle.tc_told.proofs.existence.existence.Goals as goal

pub returns : goal.returns
returns c = has_history
