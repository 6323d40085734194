use Rattle.tc_context.proofs.Vocabulary.{◌∙◌, ap, sym, arith, lock_in}
use Rattle.tc_context.proofs.LockList.{place_is, changed_place}
use Rattle.tc_context.proofs.locks.LockSet.open_on.Goals.{in-Some, in_default}
use Rattle.tc_context.proofs.locks.LockSet.open_on.Goals as goal

pub open_on-requires : goal.open_on-requires
open_on-requires c =
    let may = c.requires.lock c.in-Some.state (ap (λ s. lock_in s c.args.lock) (sym c.self.view_is) ∙ place_is c.self.inside.places.items c.args.lock c.index_mut.result.now (omega (arith, c.requires.place, c.self.invariant)) c.index_mut.ensures.value ∙ c.in-Some.is) in
    record { opened = may.ready.opened; closed = may.ready.closed; room = may.ready.entry; on = may.ended }

pub returns : goal.returns
returns c = grind (arith, changed_place)
