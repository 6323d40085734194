use Rattle.tc_park.specs.Order.{IsFirstOf}
use Rattle.tc_park.proofs.Firsts.{SleepsBelow}
use Rattle.tc_park.proofs.sleepers.first_in.Given as goal

abbrev pub invariant-loop-thread : goal.invariant-loop-thread
invariant-loop-thread l = IsFirstOf (SleepsBelow l.thread l.due) l.first
