use Rattle.tc_isa.proofs.SetLemmas.{has_set}
use Rattle.tc_isa.proofs.held.Held.plus.Goals as goal

pub returns-clause-each : goal.returns-clause-each
returns-clause-each c = λ other. rw (c.self.view_is) (has_set c.args.self c.args.lock other c.requires)
