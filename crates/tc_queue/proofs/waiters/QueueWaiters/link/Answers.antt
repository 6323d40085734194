use Rattle.std.proofs.Common.{◌≤◌, ℕ, sym, subst, ◌∙◌, arith}
use Rattle.tc_queue.specs.Words.{IsTurn}
use Rattle.tc_queue.proofs.Marks.{may_link}
use Rattle.tc_queue.proofs.waiters.QueueWaiters.link.Goals as goal

pub link-requires : goal.link-requires
link-requires c =
    let few : c.args.seat.now.log.threads ≤ 64 = subst (λ (n : ℕ). n ≤ 64) (c.threads-threads.ensures.threads ∙ sym c.requires.seat.1) c.threads-threads.ensures.few in
    let may = may_link c.args.seat.now.log.threads c.args.seat.now.log.calls c.args.own c.args.place few (let a = c.thread-thread.ensures in let b = c.thread-thread.type_inv in omega arith) c.knows.ensures c.requires.entered in
    record {
      seat = c.requires.seat;
      turns = (subst (λ (n : ℕ). IsTurn n c.args.place) c.requires.seat.1 may.0, c.requires.turn);
      entered = may.1;
    }
