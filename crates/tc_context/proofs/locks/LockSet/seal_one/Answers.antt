use Rattle.tc_context.proofs.Vocabulary.{◌∙◌, ap, sym, arith, lock_in}
use Rattle.tc_context.proofs.LockList.{place_is}
use Rattle.tc_context.proofs.locks.LockSet.seal_one.Goals as goal

pub close_drafted-requires : goal.close_drafted-requires
close_drafted-requires c =
    let can = c.requires.lock.lock c.in-Some.state (ap (λ s. lock_in s c.args.lock) (sym c.self.view_is) ∙ place_is c.self.inside.places.items c.args.lock c.index_mut.result.now (omega (arith, c.requires.lock.place, c.self.invariant)) c.index_mut.ensures.value ∙ c.in-Some.is) in
    record { draft = c.requires.draft; opened = can.opened; ended = can.ended; closes = can.closes; follows = can.follows; passes = can.passes }
