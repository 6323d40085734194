use Rattle.std.proofs.Common.{arith}
use Rattle.tc_replay.proofs.Whole.{stands_read}
use Rattle.tc_main.specs.Accepted.{CanBeAdded}
use Rattle.tc_main.proofs.replay.profile_of.Goals as goal

pub add-requires-clause-thread : goal.add-requires-clause-thread
add-requires-clause-thread c =
    let can : CanBeAdded c.args.image.now c.block-item.result =
    c.requires.blocks c.loop-block.block-index c.block-item.result (stands_read c.args.history.now c.loop-block.block-index c.block-item.result c.loop-block-test.true c.block-item.is) in
    let known = can.thread in
    let all = c.loop-block.invariant.threads in
    omega (arith, known, all)

pub add-requires-clause-locks : goal.add-requires-clause-locks
add-requires-clause-locks c = λ k held.
    let can : CanBeAdded c.args.image.now c.block-item.result =
    c.requires.blocks c.loop-block.block-index c.block-item.result (stands_read c.args.history.now c.loop-block.block-index c.block-item.result c.loop-block-test.true c.block-item.is) in
    let known = can.locks k held in
    let all = c.loop-block.invariant.locks in
    omega (arith, known, all)

pub add-requires-clause-turns : goal.add-requires-clause-turns
add-requires-clause-turns c =
    let can : CanBeAdded c.args.image.now c.block-item.result =
    c.requires.blocks c.loop-block.block-index c.block-item.result (stands_read c.args.history.now c.loop-block.block-index c.block-item.result c.loop-block-test.true c.block-item.is) in
    can.turns
