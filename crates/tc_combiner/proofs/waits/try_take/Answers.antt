use Rattle.std.proofs.Common.{◌∙◌, ◌∷◌, ◌++◌, ℕ, [], ap, true, false, refl}
use Rattle.tc_combiner.proofs.Vocabulary.{Knows, Loose, Take}
use Rattle.tc_combiner.proofs.Acting.{acts_told, misses, tried_called}
use Rattle.tc_combiner.proofs.Owning.{moves_out}
use Rattle.tc_combiner.proofs.PassedOn.{is_taken}
use Rattle.tc_combiner.proofs.Stances.{past_called, same_missed, same_then}
use Rattle.tc_combiner.proofs.waits.try_take.Goals as goal

pub returns-in-Ok-clause-tried : goal.returns-in-Ok-clause-tried
returns-in-Ok-clause-tried c =
    let r = c.in-Ok.ensures.result in (
      acts_told (Take c.in-Ok.state.number ∷ []) [] [] _ c.args.pass.now c.take.new.pass refl tt c.take.ensures.own r.called (moves_out c.args.pass.now.knows c.take.new.pass.knows (Loose c.in-Ok.state) r.came.out r.came.before) (ap (λ (w : Knows). w.missed) r.now),
      tried_called (Take c.in-Ok.state.number) c.args.pass.now.knows c.take.new.pass.knows refl (ap (λ (w : Knows). w.missed) r.now) r.called,
      is_taken c.args.hall.now c.args.lock c.in-Ok.state c.args.pass.now c.take.new.pass (c.take.ensures.own.0 ∙ c.requires.own) c.requires.place r,
    )

pub returns-then-stopped-clause-tried : goal.returns-then-stopped-clause-tried
returns-then-stopped-clause-tried c = misses _ true _ _ c.args.pass.now c.take.new.pass c.stopped.new.pass c.if-stopped.true c.take.ensures.own c.in-Err.ensures.result.1 c.stopped.ensures.acts c.stopped.ensures.tried

pub returns-else-stopped-clause-tried : goal.returns-else-stopped-clause-tried
returns-else-stopped-clause-tried c = misses _ false _ _ c.args.pass.now c.take.new.pass c.stopped.new.pass c.if-stopped.false c.take.ensures.own c.in-Err.ensures.result.1 c.stopped.ensures.acts c.stopped.ensures.tried

pub returns-in-Ok-clause-so : goal.returns-in-Ok-clause-so
returns-in-Ok-clause-so c = let r = c.in-Ok.ensures.result in past_called (Take c.args.lock) c.args.hall.now.terms c.args.pass.now.knows c.take.new.pass.knows (r.called.calls ∙ ap (λ (i : ℕ). c.args.pass.now.knows.calls ++ Take i ∷ []) r.rest.number)

pub returns-then-stopped-clause-so : goal.returns-then-stopped-clause-so
returns-then-stopped-clause-so c = (c.stopped.ensures.seen c.if-stopped.true, same_then c.args.hall.now.terms c.args.pass.now.knows c.take.new.pass.knows c.stopped.new.pass.knows (same_missed c.args.hall.now.terms c.args.pass.now.knows c.take.new.pass.knows _ _ c.in-Err.ensures.result.1) c.stopped.ensures.same)

pub returns-else-stopped-clause-so : goal.returns-else-stopped-clause-so
returns-else-stopped-clause-so c = same_then c.args.hall.now.terms c.args.pass.now.knows c.take.new.pass.knows c.stopped.new.pass.knows (same_missed c.args.hall.now.terms c.args.pass.now.knows c.take.new.pass.knows _ _ c.in-Err.ensures.result.1) c.stopped.ensures.same
