use Rattle.std.proofs.Common.{◌≤◌, ℕ, ap, subst, arith}
use Rattle.tc_queue.specs.View.{QueueView}
use Rattle.tc_youngest.proofs.queue.YoungestQueueWaiters.link.Goals as goal

pub link-requires : goal.link-requires
link-requires g c =
    let few : c.args.self.now.threads ≤ 64 = subst (λ (n : ℕ). n ≤ 64) (ap (λ (q : QueueView). q.threads) c.self.view_is) c.self.invariant in
    let turn = c.requires.turn in let thread = turn.thread in record { thread = omega arith; numbered = turn.numbered; small = turn.small }
