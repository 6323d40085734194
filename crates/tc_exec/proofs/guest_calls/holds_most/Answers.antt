use Rattle.std.proofs.Common.{ap}
use Rattle.std.specs.Prelude.{nat_le}
use Rattle.tc_isa.specs.Sets.{locks_of}
use Rattle.tc_isa.specs.declared.limits.TheConstants.{MAX_HELD}
use Rattle.tc_exec.specs.Calls.{holds_most}
use Rattle.tc_exec.proofs.guest_calls.holds_most.Goals as goal

-- src/calls.rt:38:1
pub returns : goal.returns
unfolding locks_of holds_most
returns c = ap (nat_le MAX_HELD) c.count.ensures
