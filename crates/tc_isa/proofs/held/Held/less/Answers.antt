use Rattle.std.proofs.Common.{arith}
use Rattle.tc_isa.proofs.SetLemmas.{has_cleared, cleared}
use Rattle.tc_isa.proofs.held.Held.less.Goals as goal

pub returns-clause-value : goal.returns-clause-value
returns-clause-value c = rw (c.self.view_is) (cleared c.args.self c.args.lock (omega arith) c.requires)

pub returns-clause-each : goal.returns-clause-each
returns-clause-each c = λ other. rw (c.self.view_is) (has_cleared c.args.self c.args.lock other (omega arith) c.requires)
