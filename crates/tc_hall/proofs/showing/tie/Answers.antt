use Rattle.tc_hall.proofs.Lifting.{ties}
use Rattle.tc_hall.proofs.showing.tie.Goals as goal

pub returns : goal.returns
returns c = record { ties = ties }
