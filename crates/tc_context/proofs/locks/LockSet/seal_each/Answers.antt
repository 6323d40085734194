use Rattle.tc_context.proofs.Vocabulary.{arith, has, CanSeal, sealed_in}
use Rattle.tc_context.proofs.LockList.{next_here}
use Rattle.tc_context.proofs.locks.LockSet.seal_each.Goals as goal

pub seal_one-requires-clause-lock : goal.seal_one-requires-clause-lock
seal_one-requires-clause-lock c =
    let held = has c.args.block.now.held in
    let least = c.in-Some.ensures in
    next_here held (has c.loop-lock.left) (sealed_in held c.args.block.now c.args.finish.now) (CanSeal c.args.block.now c.args.finish.now) c.in-Some.lock c.args.self.now c.loop-lock.self (omega (arith, least.bound, least.value)) least.value.0 c.loop-lock.invariant c.requires
