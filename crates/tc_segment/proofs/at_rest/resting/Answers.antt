use Rattle.tc_segment.proofs.Resting.{rests_fresh, rests_taken, rests_kept}
use Rattle.tc_segment.proofs.at_rest.resting.Goals as goal

pub returns-clause-fresh : goal.returns-clause-fresh
returns-clause-fresh c = rests_fresh

pub returns-clause-taken : goal.returns-clause-taken
returns-clause-taken c = rests_taken

pub returns-clause-rooms : goal.returns-clause-rooms
returns-clause-rooms c = rests_kept
