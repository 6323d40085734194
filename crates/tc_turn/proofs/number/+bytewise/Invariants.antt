use Rattle.tc_turn.proofs.number.+bytewise.Given as goal

abbrev pub decreases-bytewise : goal.decreases-bytewise
decreases-bytewise g l = l.width
