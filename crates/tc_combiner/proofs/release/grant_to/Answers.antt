use Rattle.std.proofs.Common.{◌≡◌, true, false, refl, sym, ap, ◌∙◌, subst, ◌∷◌, [], ◌++◌, ℕ}
use Rattle.tc_hall.proofs.Standing.{turns_last}
use Rattle.tc_hall.specs.Standing.{turns_of}
use Rattle.tc_combiner.proofs.Vocabulary.{Adopted, DidGrant, Granted, IsAtRest, Pack, Ready, Shown, adopts, put_call}
use Rattle.tc_combiner.proofs.Packages.{granted_own, only_held}
use Rattle.tc_combiner.proofs.PassedOn.{adopts_as, is_adopted, is_granted, may_put, number_is, passes_other}
use Rattle.tc_combiner.proofs.Releasing.{given_apart, given_lines, given_none, kind_as, readies_as, ready_lines}
use Rattle.std.proofs.lemmas.Bool.{false_from_ne_true}
use Rattle.tc_combiner.proofs.release.grant_to.Goals as goal

pub grant-requires : goal.grant-requires
grant-requires c = record {
  waiting = c.requires.waiter.waits;
  rest = subst (λ (x : Shown). IsAtRest x c.args.state.number c.args.state) (c.requires.may.parts.at.image ∙ sym c.requires.waiter.of) c.requires.may.released.rest;
  kind = refl;
  passes = passes_other c.args.state c.args.block.now Adopted c.args.waiter.context.thread c.requires.may.released.last (λ e. c.requires.other (e ∙ c.requires.waiter.thread));
  number = number_is _ c.args.next c.requires.may.turn;
}

pub grant-requires-2 : goal.grant-requires-2
grant-requires-2 c = record {
  waiting = c.requires.waiter.waits;
  rest = subst (λ (x : Shown). IsAtRest x c.args.state.number c.args.state) (c.requires.may.parts.at.image ∙ sym c.requires.waiter.of) c.requires.may.released.rest;
  kind = refl;
  passes = passes_other c.args.state c.args.block.now Granted c.args.waiter.context.thread c.requires.may.released.last (λ e. c.requires.other (e ∙ c.requires.waiter.thread));
  number = number_is _ c.args.next c.requires.may.turn;
}

pub returns-in-Adopt-clause-granted : goal.returns-in-Adopt-clause-granted
returns-in-Adopt-clause-granted c =
    let d : DidGrant c.args.state Adopted c.args.next.number c.args.waiter c.grant.new.self = record { is = c.grant.ensures.is; locks = c.grant.ensures.locks } in
    let may : adopts c.args.state c.args.block.now ≡ true = sym (adopts_as c.args.block.now c.args.state _ _ _ c.number-lock.ensures.is c.run.ensures c.limit.ensures) ∙ (c.plan.ensures.adopt.0 (cc)).1 in
    is_adopted c.args.hall.now.terms c.args.block.now c.args.state c.args.next c.args.waiter c.grant.new.self c.args.parts.now c.requires.waiter c.requires.may.released d may

pub returns-in-Adopt-clause-lines : goal.returns-in-Adopt-clause-lines
returns-in-Adopt-clause-lines c =
    let d : DidGrant c.args.state Adopted c.args.next.number c.args.waiter c.grant.new.self = record { is = c.grant.ensures.is; locks = c.grant.ensures.locks } in
    let may : adopts c.args.state c.args.block.now ≡ true = sym (adopts_as c.args.block.now c.args.state _ _ _ c.number-lock.ensures.is c.run.ensures c.limit.ensures) ∙ (c.plan.ensures.adopt.0 (cc)).1 in
    λ q thread so. given_lines c.args.hall.now.terms c.args.parts.now.pass.knows c.args.state Adopted c.args.next c.args.waiter c.grant.new.self q so c.requires.waiter.thread c.requires.waiter.waits.granted d c.grant.ensures.numbers (kind_as c.args.state c.args.block.now true c.requires.may.released.last may)

pub put-requires-clause-may : goal.put-requires-clause-may
put-requires-clause-may c =
    let d : DidGrant c.args.state Granted c.args.next.number c.args.waiter c.grant-2.new.self = record { is = c.grant-2.ensures.is; locks = c.grant-2.ensures.locks } in
    let may_not : adopts c.args.state c.args.block.now ≡ false = false_from_ne_true _ (λ m. c.in_default.not-Adopt (c.plan.ensures.adopt.1 (refl, adopts_as c.args.block.now c.args.state _ _ _ c.number-lock.ensures.is c.run.ensures c.limit.ensures ∙ m))) in
    may_put c.args.hall.now c.args.block.now c.args.state c.args.next c.args.waiter c.grant-2.new.self c.args.parts.now c.requires.may c.requires.waiter d may_not

pub put-requires-clause-stands : goal.put-requires-clause-stands
put-requires-clause-stands c =
    let k = c.args.hall.now.terms in
    let v = c.args.parts.now.pass.knows in
    let q = c.requires.lines.0 in
    let so = c.requires.lines.2 in
    let r = c.grant-2.new.self in
    let d : DidGrant c.args.state Granted c.args.next.number c.args.waiter r = record { is = c.grant-2.ensures.is; locks = c.grant-2.ensures.locks } in
    let may_not : adopts c.args.state c.args.block.now ≡ false = false_from_ne_true _ (λ m. c.in_default.not-Adopt (c.plan.ensures.adopt.1 (refl, adopts_as c.args.block.now c.args.state _ _ _ c.number-lock.ensures.is c.run.ensures c.limit.ensures ∙ m))) in
    let thread = c.requires.waiter.thread in
    let none = c.requires.waiter.waits.granted in
    let numbers = c.grant-2.ensures.numbers in
    readies_as k v r (Pack q ∷ []) (given_apart k v c.args.state Granted c.args.next c.args.waiter r q so thread none d numbers)
    (given_lines k v c.args.state Granted c.args.next c.args.waiter r q so thread none d numbers (kind_as c.args.state c.args.block.now false c.requires.may.released.last may_not))

pub returns-clause-granted : goal.returns-clause-granted
returns-clause-granted c =
    let d : DidGrant c.args.state Granted c.args.next.number c.args.waiter c.grant-2.new.self = record { is = c.grant-2.ensures.is; locks = c.grant-2.ensures.locks } in
    let may_not : adopts c.args.state c.args.block.now ≡ false = false_from_ne_true _ (λ m. c.in_default.not-Adopt (c.plan.ensures.adopt.1 (refl, adopts_as c.args.block.now c.args.state _ _ _ c.number-lock.ensures.is c.run.ensures c.limit.ensures ∙ m))) in
    is_granted c.args.hall.now.terms c.args.block.now c.args.state c.args.next c.args.waiter c.grant-2.new.self c.args.parts.now _ c.requires.waiter c.requires.may.turn d may_not c.put.ensures.acts (c.push.ensures.items ∙ ap (λ (t : ℕ). c.args.parts.now.ready.items ++ t ∷ []) c.thread.ensures) refl

pub returns-clause-lines : goal.returns-clause-lines
returns-clause-lines c = λ q other so.
    let k = c.args.hall.now.terms in
    let v = c.args.parts.now.pass.knows in
    let r = c.grant-2.new.self in
    let d : DidGrant c.args.state Granted c.args.next.number c.args.waiter r = record { is = c.grant-2.ensures.is; locks = c.grant-2.ensures.locks } in
    let may_not : adopts c.args.state c.args.block.now ≡ false = false_from_ne_true _ (λ m. c.in_default.not-Adopt (c.plan.ensures.adopt.1 (refl, adopts_as c.args.block.now c.args.state _ _ _ c.number-lock.ensures.is c.run.ensures c.limit.ensures ∙ m))) in
    let thread = c.requires.waiter.thread in
    let waits = c.requires.waiter.waits in
    let numbers = c.grant-2.ensures.numbers in
    ready_lines k v r (Pack q ∷ []) (given_apart k v c.args.state Granted c.args.next c.args.waiter r q so thread waits.granted d numbers)
    (given_lines k v c.args.state Granted c.args.next c.args.waiter r q so thread waits.granted d numbers (kind_as c.args.state c.args.block.now false c.requires.may.released.last may_not))
    (granted_own c.args.state Granted c.args.next.number c.args.waiter r d (only_held c.args.waiter c.requires.waiter.locks waits.granted))
    (given_none k v c.args.state Granted c.args.next c.args.waiter r q so thread waits.granted d numbers) c.put.new.pass.knows c.put.ensures.told

pub returns-in-Adopt-clause-turns : goal.returns-in-Adopt-clause-turns
returns-in-Adopt-clause-turns c = λ t. refl

pub returns-clause-turns : goal.returns-clause-turns
returns-clause-turns c = λ t. ap (turns_of t) c.put.ensures.told ∙ turns_last t c.args.parts.now.pass.knows.calls (put_call c.grant-2.new.self Ready)
