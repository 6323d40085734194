use Rattle.std.proofs.Common.{◌≡◌, ℕ, subst, arith}
use Rattle.tc_park.specs.Order.{IsFirstOf}
use Rattle.tc_park.proofs.Firsts.{SleepsBelow, all_below}
use Rattle.tc_park.proofs.sleepers.first_in.Goals as goal

pub returns : goal.returns
returns c =
    let end : c.loop-thread.thread ≡ c.args.room = let past = c.loop-thread-test.false in let e = c.loop-thread.auto.thread-end in omega arith in
    all_below c.args.room c.args.due.now c.loop-thread.first c.requires
    (subst (λ (n : ℕ). IsFirstOf (SleepsBelow n c.args.due.now) c.loop-thread.first) end c.loop-thread.invariant)
