use Rattle.std.proofs.Common.{◌≡◌, List, [], ◌∷◌, ◌<◌, ℕ, refl, sym, ap, ◌∙◌, subst, inr}
use Rattle.tc_combiner.proofs.Vocabulary.{Free, Outs, PackageView, PassCall, FollowedAs, IsTurn, LockView, Turn, Was_stopped, Went_home, bare, by_parts, change, saw, threads, turn_of}
use Rattle.tc_combiner.proofs.Acting.{same_outs}
use Rattle.tc_combiner.proofs.PassedOn.{frees, is_beside, is_released, may_lock, passes, released_free, taken_free, took_released, turn_is}
use Rattle.tc_combiner.proofs.Looking.{looks_first}
use Rattle.tc_hall.specs.Standing.{FreesAs, StandsAs, loose, turn_in}
use Rattle.tc_combiner.proofs.Stances.{past_called}
use Rattle.tc_hall.proofs.Stops.{after_stop, stop_later}
use Rattle.tc_combiner.proofs.Releasing.{followed_by, free_lines, frees_as, loose_stands}
use Rattle.tc_combiner.proofs.release.pass_on.Goals as goal

pub take_out-state-requires-clause-released : goal.take_out-state-requires-clause-released
take_out-state-requires-clause-released g c = released_free c.args.«package».now c.args.released.block.now c.args.released.lock c.keeps.ensures.sound c.requires.may.release.last c.requires.may.release.released

pub find_next-requires-clause-asks : goal.find_next-requires-clause-asks
find_next-requires-clause-asks g c = λ κs b. record {
  seat = c.requires.seat.of;
  turn = turn_is _ _ _ (subst (λ (n : ℕ). c.thread.result < n) (sym c.requires.seat.made) (subst (λ (t : ℕ). t < threads c.args.hall.now.terms) (sym c.thread.ensures) c.requires.may.release.thread)) c.number_of.ensures.number;
}

pub grant_next-requires : goal.grant_next-requires
grant_next-requires g c =
    let d = took_released c.args.hall.now.terms c.args.parts.now.pass.knows c.args.released.lock c.args.released.block.now c.take_out-state.result c.args.«package».now c.take_out-state.new.self c.keeps.ensures.sound c.requires.may.release c.take_out-state.ensures.lock c.take_out-state.ensures.is c.take_out-state.ensures.locks c.take_out-state.ensures.rest in
    let own : Turn = record { thread = c.thread.result; number = c.number_of.result } in
    let e = c.in-Next.ensures {u = tt} in record {
      may = record {
        parts = may_lock c.args.hall.now 1 c.args.released.lock c.take_out-state.result c.args.«package».now c.take_out-state.new.self c.args.parts.now _ d.out e.acts refl refl c.requires.may.parts;
        released = is_released c.args.hall.now.terms c.args.parts.now.pass.knows c.find_next.new.pass.knows c.args.released.lock c.args.released.block.now c.take_out-state.result c.args.«package».now c.keeps.ensures.sound c.requires.may.release e.acts.adds.told.image e.acts.adds.told.worker d.out.was d.out.rest;
        turn = subst (λ (n : ℕ). IsTurn n c.in-Next.next) (c.requires.seat.of.1 ∙ c.requires.seat.made) e.found.1;
      };
      lines = (
        c.take_out-state.new.self,
        turn_in c.args.«package».now c.args.released.lock,
        ap (λ (x : PackageView). x.context.thread) d.out.is ∙ sym d.thread,
        followed_by c.args.hall.now.terms c.args.parts.now.pass c.find_next.new.pass c.args.released.lock c.take_out-state.result own c.in-Next.next c.args.«package».now c.take_out-state.new.self d.out d.held d.none c.requires.lines (e.so c.args.released.lock c.requires.line.1) e.acts c.requires.may.parts.at.out,
      );
      beside = (bare c.args.«package».now, is_beside c.args.parts.now.pass.knows c.find_next.new.pass.knows c.args.«package».now c.args.released.block.now.thread c.requires.may.parts.at.out (same_outs _ c.args.parts.now.pass c.find_next.new.pass e.acts) d.thread);
    }

pub free-requires-clause-may : goal.free-requires-clause-may
free-requires-clause-may g c =
    let d = took_released c.args.hall.now.terms c.args.parts.now.pass.knows c.args.released.lock c.args.released.block.now c.take_out-state.result c.args.«package».now c.take_out-state.new.self c.keeps.ensures.sound c.requires.may.release c.take_out-state.ensures.lock c.take_out-state.ensures.is c.take_out-state.ensures.locks c.take_out-state.ensures.rest in
    let e = c.in-Nobody.ensures {u = tt} in
    taken_free c.args.hall.now _ c.args.released.lock c.take_out-state.result c.args.«package».now c.take_out-state.new.self c.args.parts.now.pass c.find_next.new.pass c.args.parts.now.aside d.out c.requires.may.release.lock c.requires.may.parts.at e.acts

pub free-requires-in-Stopped-clause-may : goal.free-requires-in-Stopped-clause-may
free-requires-in-Stopped-clause-may g c =
    let d = took_released c.args.hall.now.terms c.args.parts.now.pass.knows c.args.released.lock c.args.released.block.now c.take_out-state.result c.args.«package».now c.take_out-state.new.self c.keeps.ensures.sound c.requires.may.release c.take_out-state.ensures.lock c.take_out-state.ensures.is c.take_out-state.ensures.locks c.take_out-state.ensures.rest in
    let e = c.in-Stopped.ensures {u = tt} in
    taken_free c.args.hall.now _ c.args.released.lock c.take_out-state.result c.args.«package».now c.take_out-state.new.self c.args.parts.now.pass c.find_next.new.pass c.args.parts.now.aside d.out c.requires.may.release.lock c.requires.may.parts.at e.acts

pub returns-in-Next-clause-passed : goal.returns-in-Next-clause-passed
returns-in-Next-clause-passed g c =
    let d = took_released c.args.hall.now.terms c.args.parts.now.pass.knows c.args.released.lock c.args.released.block.now c.take_out-state.result c.args.«package».now c.take_out-state.new.self c.keeps.ensures.sound c.requires.may.release c.take_out-state.ensures.lock c.take_out-state.ensures.is c.take_out-state.ensures.locks c.take_out-state.ensures.rest in
    let e = c.in-Next.ensures {u = tt} in
    passes c.args.hall.now.terms c.args.released.lock c.args.released.block.now c.take_out-state.result _ c.in-Next.next c.args.«package».now c.take_out-state.new.self (g.Q.Order.seen c.args.seat.now) (g.Q.Order.seen c.find_next.new.seat) c.args.parts.now _ c.grant_next.new.parts c.grant_next.result d.out e.acts refl refl
    (let f = c.thread.ensures in let h = c.number_of.ensures.is in cc) e.looks.2.0 e.looks e.found.0 c.grant_next.ensures.granted

pub returns-in-Nobody-clause-passed : goal.returns-in-Nobody-clause-passed
returns-in-Nobody-clause-passed g c =
    let d = took_released c.args.hall.now.terms c.args.parts.now.pass.knows c.args.released.lock c.args.released.block.now c.take_out-state.result c.args.«package».now c.take_out-state.new.self c.keeps.ensures.sound c.requires.may.release c.take_out-state.ensures.lock c.take_out-state.ensures.is c.take_out-state.ensures.locks c.take_out-state.ensures.rest in
    let e = c.in-Nobody.ensures {u = tt} in
    let x = by_parts c.args.hall.now.terms c.args.«package».now (change (g.Q.Order.seen c.args.seat.now) (g.Q.Order.seen c.find_next.new.seat)) (change c.args.parts.now c.args.parts.now) in
    frees c.args.hall.now.terms [] c.args.released.lock c.take_out-state.result _ c.args.«package».now c.take_out-state.new.self (g.Q.Order.seen c.args.seat.now) (g.Q.Order.seen c.find_next.new.seat) c.args.parts.now _ c.find_next.new.pass
    (λ (u : Turn) (l : LockView) (cs : List PassCall). FollowedAs x l c.args.released.block.now u cs Went_home) d.out (let f = c.thread.ensures in let h = c.number_of.ensures.is in cc) e.looks.2.0 (looks_first _ _ _ _ _ e.looks) e.acts c.free.ensures.acts refl refl refl (e.found, refl)

pub returns-in-Stopped-clause-passed : goal.returns-in-Stopped-clause-passed
returns-in-Stopped-clause-passed g c =
    let d = took_released c.args.hall.now.terms c.args.parts.now.pass.knows c.args.released.lock c.args.released.block.now c.take_out-state.result c.args.«package».now c.take_out-state.new.self c.keeps.ensures.sound c.requires.may.release c.take_out-state.ensures.lock c.take_out-state.ensures.is c.take_out-state.ensures.locks c.take_out-state.ensures.rest in
    let e = c.in-Stopped.ensures {u = tt} in
    let x = by_parts c.args.hall.now.terms c.args.«package».now (change (g.Q.Order.seen c.args.seat.now) (g.Q.Order.seen c.find_next.new.seat)) (change c.args.parts.now c.args.parts.now) in
    frees c.args.hall.now.terms saw c.args.released.lock c.take_out-state.result _ c.args.«package».now c.take_out-state.new.self (g.Q.Order.seen c.args.seat.now) (g.Q.Order.seen c.find_next.new.seat) c.args.parts.now _ c.find_next.new.pass
    (λ (u : Turn) (l : LockView) (cs : List PassCall). FollowedAs x l c.args.released.block.now u cs Was_stopped) d.out (let f = c.thread.ensures in let h = c.number_of.ensures.is in cc) e.looks.2.0 (looks_first _ _ _ _ _ e.looks) e.acts c.free-in-Stopped.ensures.acts refl refl refl refl

pub find_next-requires-clause-stands : goal.find_next-requires-clause-stands
find_next-requires-clause-stands g c = λ κs b j of lined.
    let d = took_released c.args.hall.now.terms c.args.parts.now.pass.knows c.args.released.lock c.args.released.block.now c.take_out-state.result c.args.«package».now c.take_out-state.new.self c.keeps.ensures.sound c.requires.may.release c.take_out-state.ensures.lock c.take_out-state.ensures.is c.take_out-state.ensures.locks c.take_out-state.ensures.rest in
    let own : Turn = record { thread = c.thread.result; number = c.number_of.result } in
    let laws = g.met.Q.Order g.world.𝓛 g.world.𝓜 g.world.𝓡 ((λ s x. x), (λ x. x), (λ x. x), λ x. x) in
    let same : j ≡ c.args.released.lock = laws.alone c.args.queue.now c.args.hall.now j c.args.released.lock c.requires.line.0 of c.requires.line.1 lined in
    let mine : own ≡ turn_of c.args.«package».now c.args.released.lock = (let f = c.thread.ensures in let h = c.number_of.ensures.is in cc (f, h)) in
    inr (subst (λ (n : ℕ). StandsAs c.args.parts.now.pass.knows n (loose own)) (sym same) (loose_stands c.args.released.lock c.take_out-state.result c.args.«package».now c.take_out-state.new.self d.out d.held d.none c.args.hall.now.terms c.args.parts.now.pass.knows c.requires.lines lined ∙ ap loose (sym mine)))

pub free-requires-clause-stands : goal.free-requires-clause-stands
free-requires-clause-stands g c =
    let d = took_released c.args.hall.now.terms c.args.parts.now.pass.knows c.args.released.lock c.args.released.block.now c.take_out-state.result c.args.«package».now c.take_out-state.new.self c.keeps.ensures.sound c.requires.may.release c.take_out-state.ensures.lock c.take_out-state.ensures.is c.take_out-state.ensures.locks c.take_out-state.ensures.rest in
    let own : Turn = record { thread = c.thread.result; number = c.number_of.result } in
    frees_as c.args.hall.now.terms c.args.parts.now.pass.knows c.find_next.new.pass.knows c.args.released.lock c.take_out-state.result own c.args.«package».now c.take_out-state.new.self d.out d.held d.none c.requires.lines ((c.in-Nobody.ensures {u = tt}).so c.args.released.lock c.requires.line.1)

pub free-requires-in-Stopped-clause-stands : goal.free-requires-in-Stopped-clause-stands
free-requires-in-Stopped-clause-stands g c = after_stop c.args.hall.now.terms c.find_next.new.pass.knows (FreesAs c.find_next.new.pass.knows c.take_out-state.result.number) ((c.in-Stopped.ensures {u = tt}).so c.args.released.lock c.requires.line.1).0

pub returns-in-Next-clause-lines : goal.returns-in-Next-clause-lines
returns-in-Next-clause-lines g c =
    let d = took_released c.args.hall.now.terms c.args.parts.now.pass.knows c.args.released.lock c.args.released.block.now c.take_out-state.result c.args.«package».now c.take_out-state.new.self c.keeps.ensures.sound c.requires.may.release c.take_out-state.ensures.lock c.take_out-state.ensures.is c.take_out-state.ensures.locks c.take_out-state.ensures.rest in
    let own : Turn = record { thread = c.thread.result; number = c.number_of.result } in
    let e = c.in-Next.ensures {u = tt} in
    c.grant_next.ensures.lines c.take_out-state.new.self (turn_in c.args.«package».now c.args.released.lock) (ap (λ (x : PackageView). x.context.thread) d.out.is ∙ sym d.thread)
    (followed_by c.args.hall.now.terms c.args.parts.now.pass c.find_next.new.pass c.args.released.lock c.take_out-state.result own c.in-Next.next c.args.«package».now c.take_out-state.new.self d.out d.held d.none c.requires.lines (e.so c.args.released.lock c.requires.line.1) e.acts c.requires.may.parts.at.out)

pub returns-in-Nobody-clause-lines : goal.returns-in-Nobody-clause-lines
returns-in-Nobody-clause-lines g c =
    let d = took_released c.args.hall.now.terms c.args.parts.now.pass.knows c.args.released.lock c.args.released.block.now c.take_out-state.result c.args.«package».now c.take_out-state.new.self c.keeps.ensures.sound c.requires.may.release c.take_out-state.ensures.lock c.take_out-state.ensures.is c.take_out-state.ensures.locks c.take_out-state.ensures.rest in
    let own : Turn = record { thread = c.thread.result; number = c.number_of.result } in
    free_lines c.args.hall.now.terms c.args.parts.now.pass.knows c.find_next.new.pass.knows c.args.released.lock c.take_out-state.result own c.args.«package».now c.take_out-state.new.self d.out d.held d.none c.requires.lines ((c.in-Nobody.ensures {u = tt}).so c.args.released.lock c.requires.line.1) c.free.new.pass.knows c.free.ensures.told

pub returns-in-Stopped-clause-lines : goal.returns-in-Stopped-clause-lines
returns-in-Stopped-clause-lines g c = stop_later c.find_next.new.pass.knows c.free-in-Stopped.new.pass.knows (Free c.take_out-state.result.number ∷ []) c.free-in-Stopped.ensures.told ((c.in-Stopped.ensures {u = tt}).so c.args.released.lock c.requires.line.1).0

pub returns-in-Next-clause-turns : goal.returns-in-Next-clause-turns
returns-in-Next-clause-turns g c = λ lined t q out.
    let e = c.in-Next.ensures {u = tt} in
    c.grant_next.ensures.turns lined t q (ap (λ (o : Outs). o.context t) (same_outs _ c.args.parts.now.pass c.find_next.new.pass e.acts) ∙ out) ∙ (e.so c.args.released.lock c.requires.line.1).turns lined t

pub returns-in-Nobody-clause-turns : goal.returns-in-Nobody-clause-turns
returns-in-Nobody-clause-turns g c = λ lined t q out. (past_called (Free c.take_out-state.result.number) c.args.hall.now.terms c.find_next.new.pass.knows c.free.new.pass.knows c.free.ensures.told).turns lined t ∙ ((c.in-Nobody.ensures {u = tt}).so c.args.released.lock c.requires.line.1).turns lined t

pub returns-in-Stopped-clause-turns : goal.returns-in-Stopped-clause-turns
returns-in-Stopped-clause-turns g c = λ lined t q out. (past_called (Free c.take_out-state.result.number) c.args.hall.now.terms c.find_next.new.pass.knows c.free-in-Stopped.new.pass.knows c.free-in-Stopped.ensures.told).turns lined t ∙ ((c.in-Stopped.ensures {u = tt}).so c.args.released.lock c.requires.line.1).1.turns lined t
