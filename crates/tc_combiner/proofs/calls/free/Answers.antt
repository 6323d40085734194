use Rattle.std.proofs.Common.{[], ◌∷◌, ap, if◌then◌else◌, refl, Some, None}
use Rattle.tc_combiner.proofs.Vocabulary.{Free, Knows, Loose, kept}
use Rattle.tc_hall.proofs.Outs.{is_there}
use Rattle.tc_combiner.proofs.Acting.{acts_told}
use Rattle.tc_combiner.proofs.Owning.{moves_in}
use Rattle.tc_lemmas.proofs.Tests.{eq_self}
use Rattle.tc_combiner.proofs.calls.free.Goals as goal

pub free-requires-clause-ready : goal.free-requires-clause-ready
free-requires-clause-ready c = record {
  has = is_there c.args.pass.now.knows.locks c.args.lock.number (kept c.args.lock) (c.requires.may.out.locks c.args.lock.number (kept c.args.lock) (ap (λ b. if b then Some (kept c.args.lock) else None) (eq_self c.args.lock.number)));
  rests = c.requires.may.rests;
}

pub returns-clause-acts : goal.returns-clause-acts
returns-clause-acts c = acts_told (Free c.args.lock.number ∷ []) (Free c.args.lock.number ∷ []) _ [] c.args.pass.now c.free.new.pass refl tt c.free.ensures.own c.free.ensures.freed.called (moves_in c.args.pass.now.knows c.free.new.pass.knows (Loose c.args.lock) c.free.ensures.freed.rest) (ap (λ (w : Knows). w.missed) c.free.ensures.freed.now)

pub returns-clause-told : goal.returns-clause-told
returns-clause-told c = c.free.ensures.freed.called.calls

pub free-requires-clause-stands : goal.free-requires-clause-stands
free-requires-clause-stands c = c.requires.stands
