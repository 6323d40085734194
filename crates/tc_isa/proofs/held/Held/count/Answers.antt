use Rattle.std.proofs.Common.{arith}
use Rattle.tc_isa.specs.Sets.{locks_of}
use Rattle.tc_isa.proofs.SetLemmas.{count_is}
use Rattle.tc_isa.proofs.held.Held.count.Goals as goal

pub returns : goal.returns
unfolding locks_of
returns c = rw (c.self.view_is) (count_is 32 c.args.self (omega arith))
