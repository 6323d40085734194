use Rattle.std.proofs.Common.{[], ◌∷◌, ap, if◌then◌else◌, refl, Some, None}
use Rattle.tc_combiner.proofs.Vocabulary.{Knows, Pack, Waiting, bare, keep, kept, put_call}
use Rattle.tc_hall.proofs.Outs.{is_there}
use Rattle.tc_combiner.proofs.Acting.{acts_told}
use Rattle.tc_combiner.proofs.Owning.{moves_in}
use Rattle.tc_lemmas.proofs.Tests.{eq_self}
use Rattle.tc_combiner.proofs.calls.ship.Goals as goal

pub put-requires-clause-ready : goal.put-requires-clause-ready
put-requires-clause-ready c = record {
  has = is_there c.args.pass.now.knows.packages c.args.«package».context.thread (bare c.args.«package») (c.requires.may.out.contexts c.args.«package».context.thread (bare c.args.«package») (ap (λ b. if b then Some (bare c.args.«package») else None) (eq_self c.args.«package».context.thread)));
  locks = λ i l e. is_there c.args.pass.now.knows.locks i (kept l) (c.requires.may.out.locks i (kept l) (ap keep e));
  order = c.requires.may.order;
  stop = λ e. let p = c.requires.may.free in let n : ⊥ = cc in absurd n;
  fits = λ e. c.requires.may.fits;
}

pub returns-clause-acts : goal.returns-clause-acts
returns-clause-acts c = acts_told (put_call c.args.«package» (Waiting c.args.lock) ∷ []) (put_call c.args.«package» (Waiting c.args.lock) ∷ []) _ [] c.args.pass.now c.put.new.pass refl tt c.put.ensures.own c.put.ensures.put.called (moves_in c.args.pass.now.knows c.put.new.pass.knows (Pack c.args.«package») c.put.ensures.put.rest) (ap (λ (w : Knows). w.missed) c.put.ensures.put.now)

pub put-requires-clause-stands : goal.put-requires-clause-stands
put-requires-clause-stands c = c.requires.stands
