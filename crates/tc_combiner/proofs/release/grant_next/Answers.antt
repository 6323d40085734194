use Rattle.std.proofs.Common.{refl, sym, ◌∙◌, subst, ℕ, [], ◌+◌, ◌∷◌}
use Rattle.tc_hall.proofs.Outs.{loose_out}
use Rattle.tc_hall.specs.Standing.{ClaimsAs, FreesAs, IfLined}
use Rattle.tc_combiner.proofs.Vocabulary.{Free, IsWaiter, Loose, Pack, Shown, Waiting, claim_call, kept}
use Rattle.tc_combiner.proofs.Acting.{may_still}
use Rattle.tc_combiner.proofs.PassedOn.{came_apart, came, grants_sooner, is_stopped, may_free, released_still}
use Rattle.tc_combiner.specs.Stances.{StandsPast}
use Rattle.tc_combiner.proofs.Stances.{past_called}
use Rattle.tc_hall.proofs.Stops.{after_stop, stop_later}
use Rattle.tc_combiner.proofs.Releasing.{came_counts, claims_as, grants_so}
use Rattle.tc_combiner.proofs.release.grant_next.Goals as goal

pub grant_to-requires : goal.grant_to-requires
grant_to-requires g c =
    let e = (c.in-Some.ensures {u = tt}).waited in
    let w = e.2 in record {
      may = record {
        parts = may_still c.args.hall.now [] (Loose c.args.state ∷ []) (Pack c.in-Some.waiter ∷ Loose c.args.state ∷ []) 1 c.args.parts.now _ c.requires.may.parts (came c.args.state c.in-Some.waiter c.args.parts.now.pass c.await_package.new.pass e.0) refl refl;
        released = released_still [] [] (Pack c.in-Some.waiter ∷ []) c.args.parts.now.pass c.await_package.new.pass c.args.block.now c.args.state e.0 c.requires.may.released;
        turn = c.requires.may.turn;
      };
      waiter = subst (λ (x : Shown). IsWaiter c.args.next.thread c.args.state.number x c.in-Some.waiter) (e.0.adds.told.image ∙ c.requires.may.parts.at.image) (subst (λ (i : ℕ). IsWaiter c.args.next.thread i c.await_package.new.pass.knows.image c.in-Some.waiter) c.number-lock.ensures.is w);
      lines =
          let v = c.args.parts.now.pass.knows in
          let is = c.number-lock.ensures.is in
          let l = c.args.state in
          let x = c.in-Some.waiter in
          let by = c.requires.lines in
          let past = subst (λ (i : ℕ). StandsPast (claim_call v x (256 + i)) c.args.hall.now.terms v c.await_package.new.pass.knows) is (c.in-Some.ensures {u = tt}).so in
          let waits = subst (λ (i : ℕ). IsWaiter c.args.next.thread i c.await_package.new.pass.knows.image x) is w in
          (by.0, by.2, grants_so c.args.hall.now.terms v c.await_package.new.pass.knows l x e.0.moves past by.1 c.args.next by.0 by.3 c.requires.may.parts.at.out.1.0 waits.waits.absent waits.locks);
      other = λ f. came_apart c.args.parts.now.pass.knows c.await_package.new.pass.knows c.in-Some.waiter c.requires.beside.0 c.args.block.now.thread e.0.moves c.requires.beside.1 (f ∙ sym w.thread);
    }

pub free-requires-clause-may : goal.free-requires-clause-may
free-requires-clause-may g c = may_free c.args.hall.now _ c.args.state c.args.parts.now.pass c.await_package.new.pass c.args.parts.now.aside c.requires.may.released.lock c.requires.may.released.rest.ended c.requires.may.parts.at (c.in-None.ensures {u = tt}).waited.0

pub returns-in-Some-clause-granted : goal.returns-in-Some-clause-granted
returns-in-Some-clause-granted g c =
    let k = c.args.hall.now.terms in
    let l = c.args.state in
    let x = c.in-Some.waiter in
    let moved = came l x c.args.parts.now.pass c.await_package.new.pass (c.in-Some.ensures {u = tt}).waited.0 in
    grants_sooner k l c.args.block.now c.args.next (Loose l ∷ []) (Pack x ∷ Loose l ∷ []) c.args.parts.now _ c.grant_to.new.parts c.grant_to.result moved refl refl c.grant_to.ensures.granted

pub returns-in-None-clause-granted : goal.returns-in-None-clause-granted
returns-in-None-clause-granted g c = is_stopped c.args.hall.now.terms c.args.state c.args.block.now c.args.next c.args.parts.now _ c.await_package.new.pass (c.in-None.ensures {u = tt}).waited.0 c.free.ensures.acts refl refl

pub await_package-requires-clause-stands : goal.await_package-requires-clause-stands
await_package-requires-clause-stands g c =
    let by = c.requires.lines in
    let v = c.args.parts.now.pass.knows in
    subst (λ (i : ℕ). IfLined c.args.hall.now.terms v (ClaimsAs v c.args.next.thread (Waiting i))) (sym c.number-lock.ensures.is)
    (claims_as c.args.hall.now.terms v c.args.state.number by.1 c.args.next by.0 by.3 (kept c.args.state) (loose_out v c.args.state c.requires.may.parts.at.out.1.0))

pub free-requires-clause-stands : goal.free-requires-clause-stands
free-requires-clause-stands g c = after_stop c.args.hall.now.terms c.await_package.new.pass.knows (FreesAs c.await_package.new.pass.knows c.args.state.number) (c.in-None.ensures {u = tt}).so.0

pub returns-in-Some-clause-lines : goal.returns-in-Some-clause-lines
returns-in-Some-clause-lines g c = λ q own thread by.
    let v = c.args.parts.now.pass.knows in
    let is = c.number-lock.ensures.is in
    let e = c.in-Some.ensures {u = tt} in
    let l = c.args.state in
    let x = c.in-Some.waiter in
    let past = subst (λ (i : ℕ). StandsPast (claim_call v x (256 + i)) c.args.hall.now.terms v c.await_package.new.pass.knows) is e.so in
    let waits = subst (λ (i : ℕ). IsWaiter c.args.next.thread i c.await_package.new.pass.knows.image x) is e.waited.2 in
    c.grant_to.ensures.lines q thread (grants_so c.args.hall.now.terms v c.await_package.new.pass.knows l x e.waited.0.moves past own c.args.next q by c.requires.may.parts.at.out.1.0 waits.waits.absent waits.locks)

pub returns-in-None-clause-lines : goal.returns-in-None-clause-lines
returns-in-None-clause-lines g c = λ q own thread by. stop_later c.await_package.new.pass.knows c.free.new.pass.knows (Free c.args.state.number ∷ []) c.free.ensures.told (c.in-None.ensures {u = tt}).so.0

pub returns-in-Some-clause-turns : goal.returns-in-Some-clause-turns
returns-in-Some-clause-turns g c = λ lined t p out.
    let v = c.args.parts.now.pass.knows in
    let e = c.in-Some.ensures {u = tt} in
    let past = subst (λ (i : ℕ). StandsPast (claim_call v c.in-Some.waiter (256 + i)) c.args.hall.now.terms v c.await_package.new.pass.knows) c.number-lock.ensures.is e.so in
    c.grant_to.ensures.turns t ∙ came_counts c.args.hall.now.terms v c.await_package.new.pass.knows c.args.state c.in-Some.waiter e.waited.0.moves past lined t p out

pub returns-in-None-clause-turns : goal.returns-in-None-clause-turns
returns-in-None-clause-turns g c = λ lined t p out. (past_called (Free c.args.state.number) c.args.hall.now.terms c.await_package.new.pass.knows c.free.new.pass.knows c.free.ensures.told).turns lined t ∙ (c.in-None.ensures {u = tt}).so.1.turns lined t
