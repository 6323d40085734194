use Rattle.std.proofs.Common.{arith}
use Rattle.tc_isa.proofs.SetLemmas.{greatest_is}
use Rattle.tc_isa.proofs.held.Held.greatest.Goals as goal

pub returns-else-self-eq0-clause-value : goal.returns-else-self-eq0-clause-value
returns-else-self-eq0-clause-value c = rw (c.self.view_is) (greatest_is c.args.self (omega arith) (omega arith))
