use Rattle.tc_turn.proofs.number.+put_bytewise.Given as goal

abbrev pub decreases-put_bytewise : goal.decreases-put_bytewise
decreases-put_bytewise l = l.width
