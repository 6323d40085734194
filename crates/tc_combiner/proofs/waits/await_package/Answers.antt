use Rattle.std.proofs.Common.{[], ◌∷◌, ◌+◌, subst}
use Rattle.tc_combiner.proofs.Vocabulary.{IsWaiter, Pack, PassCall, claim_call}
use Rattle.tc_combiner.proofs.Acting.{waits_came, waits_more, waits_none, waits_stopped}
use Rattle.tc_combiner.specs.Stances.{StandsPast}
use Rattle.tc_combiner.proofs.Stances.{claim_same, claims_same, same_past, same_self, same_then}
use Rattle.tc_combiner.proofs.waits.await_package.Goals as goal

pub loop-init : goal.loop-init
loop-init g c = (tt, tt, waits_none c.args.pass.now, same_self c.args.hall.now.terms c.args.pass.now.knows)

pub loop-preserved : goal.loop-preserved
loop-preserved g c = (tt, tt, waits_more (λ q. Pack q ∷ []) (λ p q. IsWaiter c.args.t c.args.lock p.knows.image q) c.args.pass.now c.loop.pass c.try_adopt.new.pass c.loop.invariant.2 (c.in-Refused.ensures {u = tt}).tried, same_then c.args.hall.now.terms c.args.pass.now.knows c.loop.pass.knows c.try_adopt.new.pass.knows c.loop.invariant.3 (c.in-Refused.ensures {u = tt}).so)

pub returns-in-Came-clause-waited : goal.returns-in-Came-clause-waited
returns-in-Came-clause-waited g c = waits_came (λ q. Pack q ∷ []) (λ p q. IsWaiter c.args.t c.args.lock p.knows.image q) c.args.pass.now c.loop.pass c.try_adopt.new.pass c.loop.invariant.2 c.in-Came.waiter (c.in-Came.ensures {u = tt}).tried

pub returns-in-Stopped-clause-waited : goal.returns-in-Stopped-clause-waited
returns-in-Stopped-clause-waited g c = waits_stopped (λ q. Pack q ∷ []) (λ p q. IsWaiter c.args.t c.args.lock p.knows.image q) c.args.pass.now c.loop.pass c.try_adopt.new.pass c.loop.invariant.2 (c.in-Stopped.ensures {u = tt}).tried

pub try_adopt-requires-clause-stands : goal.try_adopt-requires-clause-stands
try_adopt-requires-clause-stands g c = claims_same c.args.hall.now.terms c.args.pass.now.knows c.loop.pass.knows c.loop.invariant.3 c.args.t c.args.lock c.requires.stands

pub returns-in-Came-clause-so : goal.returns-in-Came-clause-so
returns-in-Came-clause-so g c =
    let k = c.args.hall.now.terms in
    let v = c.args.pass.now.knows in
    let w = c.loop.pass.knows in
    let x = c.try_adopt.new.pass.knows in
    let waiter = c.in-Came.waiter in
    let word = 256 + c.args.lock in
    let same = c.loop.invariant.3 in
    same_past k v w x (claim_call v waiter word) same (subst (λ (d : PassCall). StandsPast d k w x) (claim_same k v w same waiter word) (c.in-Came.ensures {u = tt}).so)

pub returns-in-Stopped-clause-so : goal.returns-in-Stopped-clause-so
returns-in-Stopped-clause-so g c = let so = (c.in-Stopped.ensures {u = tt}).so in (so.0, same_then c.args.hall.now.terms c.args.pass.now.knows c.loop.pass.knows c.try_adopt.new.pass.knows c.loop.invariant.3 so.1)
