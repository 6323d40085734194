use Rattle.std.proofs.Common.{◌∷◌, refl, sym, ◌∙◌, subst, ℕ, None, inr}
use Rattle.tc_combiner.proofs.Vocabulary.{IsAtRest, IsWaiting, Pack, Shown, packed}
use Rattle.tc_combiner.proofs.Acting.{acts_by, at_after}
use Rattle.tc_combiner.proofs.Acquiring.{stops_first, takes_first}
use Rattle.tc_combiner.specs.Stances.{shows_at}
use Rattle.tc_hall.specs.Standing.{entered, turn_by}
use Rattle.tc_combiner.proofs.Lining.{but_here, took_first}
use Rattle.tc_combiner.proofs.acquire.acquire_first.Goals as goal

pub grant-requires-clause-waiting : goal.grant-requires-clause-waiting
grant-requires-clause-waiting g c = subst (λ (i : ℕ). IsWaiting c.args.«package» i) (sym (c.in-Some.ensures {u = tt}).waited.2.0.number) c.requires.may.waits

pub grant-requires-clause-rest : goal.grant-requires-clause-rest
grant-requires-clause-rest g c =
    let r = (c.in-Some.ensures {u = tt}).waited.2.0 in
    subst (λ (x : Shown). IsAtRest x c.in-Some.state.number c.in-Some.state) ((c.in-Some.ensures {u = tt}).waited.0.adds.told.image ∙ c.requires.parts.image ∙ sym c.requires.may.may.of) (subst (λ (i : ℕ). IsAtRest c.await_lock.new.pass.knows.image i c.in-Some.state) (sym r.number) r)

pub put_all_back-requires : goal.put_all_back-requires
put_all_back-requires g c = record {
  parts = at_after c.args.hall.now _ _ _ c.args.parts.now.pass _ c.args.parts.now.aside _ c.requires.parts (acts_by _ (Pack c.args.«package» ∷ packed c.args.parts.now.aside) c.args.parts.now.pass _ (c.in-None.ensures {u = tt}).waited.0) refl;
  plain = c.requires.may.may.plain;
  stop = (c.in-None.ensures {u = tt}).so.0;
}

pub returns-in-Some-clause-first : goal.returns-in-Some-clause-first
returns-in-Some-clause-first g c =
    let e = (c.in-Some.ensures {u = tt}).waited in
    let rest = subst (λ (x : Shown). IsAtRest x c.args.lock c.in-Some.state) (e.0.adds.told.image ∙ c.requires.parts.image ∙ sym c.requires.may.may.of) e.2.0 in
    takes_first c.args.hall.now.terms c.args.lock c.args.number c.in-Some.state c.args.«package» c.grant.new.self c.args.parts.now _ rest (record { is = c.grant.ensures.is; locks = c.grant.ensures.locks }) c.requires.may.waits c.requires.may.may e.0 refl refl

pub returns-in-None-clause-first : goal.returns-in-None-clause-first
returns-in-None-clause-first g c = stops_first c.args.hall.now.terms c.args.lock c.args.number c.args.«package» c.args.parts.now _ c.put_all_back.new.parts (c.in-None.ensures {u = tt}).waited.0 refl c.put_all_back.ensures

pub await_lock-requires-clause-stands : goal.await_lock-requires-clause-stands
await_lock-requires-clause-stands g c = λ lined. inr (turn_by c.args.«package».context.thread c.args.number, c.requires.lines.stands lined c.args.lock ∙ but_here c.args.lock c.args.lock (entered (turn_by c.args.«package».context.thread c.args.number) None) (shows_at (Pack c.args.«package» ∷ packed c.args.parts.now.aside)) refl)

pub returns-in-Some-clause-lines : goal.returns-in-Some-clause-lines
returns-in-Some-clause-lines g c =
    let e = c.in-Some.ensures {u = tt} in
    took_first c.args.hall.now.terms c.args.parts.now.pass.knows c.await_lock.new.pass.knows c.args.lock c.args.number c.in-Some.state c.args.«package» c.grant.new.self c.args.parts.now.aside e.waited.2.0.number c.requires.may.may.plain.granted (record { is = c.grant.ensures.is; locks = c.grant.ensures.locks }) c.grant.ensures.numbers c.requires.lines e.so
