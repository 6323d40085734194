use Rattle.std.proofs.Common.{[], ◌∷◌, ◌+◌, ap, true, false, refl, sym, subst}
use Rattle.tc_combiner.proofs.Vocabulary.{IsWaiter, Knows, Pack, Shown, claim_call}
use Rattle.tc_combiner.proofs.Acting.{acts_told, misses, tried_called}
use Rattle.tc_combiner.proofs.Owning.{moves_out}
use Rattle.tc_combiner.proofs.Packages.{is_waiter}
use Rattle.tc_combiner.proofs.Stances.{past_called, same_missed, same_then}
use Rattle.tc_combiner.proofs.waits.try_adopt.Goals as goal

pub returns-in-Ok-clause-tried : goal.returns-in-Ok-clause-tried
returns-in-Ok-clause-tried c =
    let r = c.in-Ok.ensures.result in (
      acts_told (claim_call c.args.pass.now.knows c.in-Ok.waiter (256 + c.args.lock) ∷ []) [] [] _ c.args.pass.now c.adopt.new.pass refl tt c.adopt.ensures.own r.called (moves_out c.args.pass.now.knows c.adopt.new.pass.knows (Pack c.in-Ok.waiter) r.came.out r.came.before) (ap (λ (w : Knows). w.missed) r.now),
      tried_called (claim_call c.args.pass.now.knows c.in-Ok.waiter (256 + c.args.lock)) c.args.pass.now.knows c.adopt.new.pass.knows refl (ap (λ (w : Knows). w.missed) r.now) r.called,
      subst (λ (x : Shown). IsWaiter c.args.t c.args.lock x c.in-Ok.waiter) (sym r.called.image) (is_waiter c.args.t c.args.lock c.in-Ok.waiter c.args.pass.now.knows c.adopt.new.pass.knows r c.in-Ok.ensures.waiting c.keeps.ensures.sound),
    )

pub returns-then-stopped-clause-tried : goal.returns-then-stopped-clause-tried
returns-then-stopped-clause-tried c = misses _ true _ _ c.args.pass.now c.adopt.new.pass c.stopped.new.pass c.if-stopped.true c.adopt.ensures.own c.in-Err.ensures.result.1 c.stopped.ensures.acts c.stopped.ensures.tried

pub returns-else-stopped-clause-tried : goal.returns-else-stopped-clause-tried
returns-else-stopped-clause-tried c = misses _ false _ _ c.args.pass.now c.adopt.new.pass c.stopped.new.pass c.if-stopped.false c.adopt.ensures.own c.in-Err.ensures.result.1 c.stopped.ensures.acts c.stopped.ensures.tried

pub returns-in-Ok-clause-so : goal.returns-in-Ok-clause-so
returns-in-Ok-clause-so c = let r = c.in-Ok.ensures.result in past_called (claim_call c.args.pass.now.knows c.in-Ok.waiter (256 + c.args.lock)) c.args.hall.now.terms c.args.pass.now.knows c.adopt.new.pass.knows r.called.calls

pub returns-then-stopped-clause-so : goal.returns-then-stopped-clause-so
returns-then-stopped-clause-so c = (c.stopped.ensures.seen c.if-stopped.true, same_then c.args.hall.now.terms c.args.pass.now.knows c.adopt.new.pass.knows c.stopped.new.pass.knows (same_missed c.args.hall.now.terms c.args.pass.now.knows c.adopt.new.pass.knows _ _ c.in-Err.ensures.result.1) c.stopped.ensures.same)

pub returns-else-stopped-clause-so : goal.returns-else-stopped-clause-so
returns-else-stopped-clause-so c = same_then c.args.hall.now.terms c.args.pass.now.knows c.adopt.new.pass.knows c.stopped.new.pass.knows (same_missed c.args.hall.now.terms c.args.pass.now.knows c.adopt.new.pass.knows _ _ c.in-Err.ensures.result.1) c.stopped.ensures.same
