use Rattle.tc_turn.proofs.Turns.{reads, leaves, covers_on, next_known, next_free, next_wants}
use Rattle.tc_turn.proofs.turn_laws.turns.Goals as goal

pub returns-clause-reads : goal.returns-clause-reads
returns-clause-reads c = reads

pub returns-clause-leaves : goal.returns-clause-leaves
returns-clause-leaves c = leaves

pub returns-clause-covers : goal.returns-clause-covers
returns-clause-covers c = covers_on

pub returns-clause-takes : goal.returns-clause-takes
returns-clause-takes c = λ image d k e. record { known = next_known image d k e; free = next_free image d k e; alone = next_wants image d k e }
