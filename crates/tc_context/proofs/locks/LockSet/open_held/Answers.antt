use Rattle.tc_context.proofs.Vocabulary.{arith, has, MayGoOn, opened_in}
use Rattle.tc_context.proofs.LockList.{next_here}
use Rattle.tc_context.proofs.locks.LockSet.open_held.Goals as goal

pub open_on-requires : goal.open_on-requires
open_on-requires c = next_here (has c.args.held) (has c.loop-lock.left) (opened_in (has c.args.held) c.args.start.now c.args.fuel) (MayGoOn c.args.start.now) c.in-Some.lock c.args.self.now c.loop-lock.self (let h = c.in-Some.ensures.bound in let v = c.in-Some.ensures.value in omega (arith, h)) c.in-Some.ensures.value.0 c.loop-lock.invariant c.requires
