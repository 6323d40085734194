use Rattle.tc_hall.proofs.Lifting.{opening_shown, lifting}
use Rattle.tc_hall.proofs.showing.lift.Goals as goal

pub returns-clause-opens : goal.returns-clause-opens
returns-clause-opens c = opening_shown

pub returns-clause-lifts : goal.returns-clause-lifts
returns-clause-lifts c = lifting
