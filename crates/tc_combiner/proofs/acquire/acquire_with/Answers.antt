use Rattle.std.proofs.Common.{◌≡◌, ◌⊎◌, ℕ, Bool, if◌then◌else◌, List, refl, [], ◌∷◌, subst, sym, ap, ◌∙◌, inr, Some, None}
use Rattle.tc_queue.specs.Lines.{Enter, answer}
use Rattle.tc_combiner.proofs.Vocabulary.{Behind, BeginsAs, DeskParts, First, Has, LineCall, Link, Pack, PackageView, PassCall, Turn, Waiting, bare, packed, put_call}
use Rattle.tc_combiner.proofs.Acting.{acts_by, acts_lined, acts_then, at_after, begun_as}
use Rattle.tc_combiner.proofs.Acquiring.{at_counted, first_after, goes_on, is_counted, may_wait, ships, still_asks, stops_second}
use Rattle.tc_lemmas.proofs.Tests.{eq_self}
use Rattle.tc_hall.proofs.Outs.{is_there}
use Rattle.tc_hall.specs.Standing.{EntersAs}
use Rattle.tc_hall.specs.Steps.{HasStop}
use Rattle.tc_combiner.proofs.Stances.{first_past, link_same}
use Rattle.tc_combiner.proofs.Lining.{enters_as, is_behind, is_first, links_as, same_lines, ship_lines, ships_as, wants_absent}
use Rattle.tc_combiner.proofs.acquire.acquire_with.Goals as goal

pub acquire_first-requires-clause-parts : goal.acquire_first-requires-clause-parts
acquire_first-requires-clause-parts g c =
    let p = c.next_number.new.self in
    let lined = acts_lined _ c.args.parts.now.pass c.enter.new.pass c.enter.ensures.told in
    let counted' = at_counted c.args.hall.now c.args.«package» p c.next_number.result c.args.parts.now c.next_number.ensures.rest c.requires.parts in
    let at = at_after c.args.hall.now [] _ _ c.args.parts.now.pass c.enter.new.pass c.args.parts.now.aside c.args.parts.now.aside counted' (acts_by [] (Pack p ∷ packed c.args.parts.now.aside) c.args.parts.now.pass c.enter.new.pass lined) refl in
    at

pub ship-requires-clause-may : goal.ship-requires-clause-may
ship-requires-clause-may g c =
    let p = c.next_number.new.self in
    let lined = acts_lined _ c.args.parts.now.pass c.enter.new.pass c.enter.ensures.told in
    let counted' = at_counted c.args.hall.now c.args.«package» p c.next_number.result c.args.parts.now c.next_number.ensures.rest c.requires.parts in
    let at = at_after c.args.hall.now [] _ _ c.args.parts.now.pass c.enter.new.pass c.args.parts.now.aside c.args.parts.now.aside counted' (acts_by [] (Pack p ∷ packed c.args.parts.now.aside) c.args.parts.now.pass c.enter.new.pass lined) refl in
    let parts : DeskParts = record c.args.parts.now { pass = c.enter.new.pass } in
    may_wait c.args.hall.now c.args.lock p parts at (still_asks c.args.hall.now.terms c.args.lock c.args.«package» p c.next_number.result c.next_number.ensures.rest c.requires.may)

pub link-requires-clause-linked : goal.link-requires-clause-linked
link-requires-clause-linked g c = (c.in-Behind.ensures {u = tt}).may c.ship.new.pass (put_call c.next_number.new.self (Waiting c.args.lock)) c.ship.ensures.told refl

pub returns-in-Some-clause-acquired : goal.returns-in-Some-clause-acquired
returns-in-Some-clause-acquired g c =
    let p = c.next_number.new.self in
    let lined = acts_lined _ c.args.parts.now.pass c.enter.new.pass c.enter.ensures.told in
    let number = is_counted c.args.«package» c.next_number.new.self c.next_number.result c.thread.result c.next_number.ensures.is c.next_number.ensures.rest c.thread.ensures in
    goes_on c.args.hall.now c.args.lock _ c.args.«package» p (g.Q.Order.seen c.args.seat.now) (g.Q.Order.seen c.enter.new.seat) c.args.parts.now c.acquire_first.new.parts number c.requires.parts c.in-Some.«package» (c.in-First.ensures {u = tt}).call
    (first_after c.args.hall.now.terms c.args.lock _ p c.args.parts.now c.enter.new.pass c.acquire_first.new.parts _ lined (c.in-Some.ensures {u = tt}).first)

pub returns-in-None-clause-acquired : goal.returns-in-None-clause-acquired
returns-in-None-clause-acquired g c =
    let p = c.next_number.new.self in
    let lined = acts_lined _ c.args.parts.now.pass c.enter.new.pass c.enter.ensures.told in
    let number = is_counted c.args.«package» c.next_number.new.self c.next_number.result c.thread.result c.next_number.ensures.is c.next_number.ensures.rest c.thread.ensures in
    stops_second c.args.hall.now c.args.lock _ c.args.«package» p (g.Q.Order.seen c.args.seat.now) (g.Q.Order.seen c.enter.new.seat) c.args.parts.now c.acquire_first.new.parts number c.requires.parts (c.in-First.ensures {u = tt}).call
    (first_after c.args.hall.now.terms c.args.lock _ p c.args.parts.now c.enter.new.pass c.acquire_first.new.parts _ lined (c.in-None.ensures {u = tt}).first)

pub returns-in-Behind-clause-acquired : goal.returns-in-Behind-clause-acquired
returns-in-Behind-clause-acquired g c =
    let p = c.next_number.new.self in
    let lined = acts_lined _ c.args.parts.now.pass c.enter.new.pass c.enter.ensures.told in
    let number = is_counted c.args.«package» c.next_number.new.self c.next_number.result c.thread.result c.next_number.ensures.is c.next_number.ensures.rest c.thread.ensures in
    let put = put_call p (Waiting c.args.lock) ∷ [] in
    let after = acts_then put [] (Pack p ∷ []) [] [] c.enter.new.pass c.ship.new.pass c.link.new.pass c.ship.ensures.acts (acts_lined _ c.ship.new.pass c.link.new.pass c.link.ensures.told) in
    let all = acts_then [] put (Pack p ∷ []) (Pack p ∷ []) [] c.args.parts.now.pass c.enter.new.pass c.link.new.pass (acts_by [] (Pack p ∷ []) c.args.parts.now.pass c.enter.new.pass lined) after in
    ships c.args.hall.now c.args.lock _ c.args.«package» p (g.Q.Order.seen c.args.seat.now) (g.Q.Order.seen c.enter.new.seat) c.args.parts.now _ number c.requires.parts _ (g.Q.Order.seen c.link.new.seat) (c.in-Behind.ensures {u = tt}).call c.link.ensures.call all refl refl

pub returns-in-Some-clause-enters : goal.returns-in-Some-clause-enters
returns-in-Some-clause-enters g c =
    let number = is_counted c.args.«package» c.next_number.new.self c.next_number.result c.thread.result c.next_number.ensures.is c.next_number.ensures.rest c.thread.ensures in
    let told = (c.in-Some.ensures {u = tt}).first.acts.adds.told.calls in
    let a = answer g.Q.Order.mark c.enter.result in
    (a, subst (λ (u : Turn). BeginsAs (g.Q.Order.notes c.args.queue.now (Enter u a)) c.args.parts.now.pass c.acquire_first.new.parts.pass) number.turn (begun_as _ c.args.parts.now.pass c.enter.new.pass c.acquire_first.new.parts.pass _ c.enter.ensures.told told))

pub returns-in-None-clause-enters : goal.returns-in-None-clause-enters
returns-in-None-clause-enters g c =
    let number = is_counted c.args.«package» c.next_number.new.self c.next_number.result c.thread.result c.next_number.ensures.is c.next_number.ensures.rest c.thread.ensures in
    let told = (c.in-None.ensures {u = tt}).first.acts.adds.told.calls in
    let a = answer g.Q.Order.mark c.enter.result in
    (a, subst (λ (u : Turn). BeginsAs (g.Q.Order.notes c.args.queue.now (Enter u a)) c.args.parts.now.pass c.acquire_first.new.parts.pass) number.turn (begun_as _ c.args.parts.now.pass c.enter.new.pass c.acquire_first.new.parts.pass _ c.enter.ensures.told told))

pub returns-in-Behind-clause-enters : goal.returns-in-Behind-clause-enters
returns-in-Behind-clause-enters g c =
    let p = c.next_number.new.self in
    let number = is_counted c.args.«package» c.next_number.new.self c.next_number.result c.thread.result c.next_number.ensures.is c.next_number.ensures.rest c.thread.ensures in
    let after = acts_then (put_call p (Waiting c.args.lock) ∷ []) [] (Pack p ∷ []) [] [] c.enter.new.pass c.ship.new.pass c.link.new.pass c.ship.ensures.acts (acts_lined _ c.ship.new.pass c.link.new.pass c.link.ensures.told) in
    let a = answer g.Q.Order.mark c.enter.result in
    (a, subst (λ (u : Turn). BeginsAs (g.Q.Order.notes c.args.queue.now (Enter u a)) c.args.parts.now.pass c.link.new.pass) number.turn (begun_as _ c.args.parts.now.pass c.enter.new.pass c.link.new.pass _ c.enter.ensures.told after.adds.told.calls))

pub enter-requires-clause-stands : goal.enter-requires-clause-stands
enter-requires-clause-stands g c = λ i of lined.
    let v = c.args.parts.now.pass.knows in
    let q = c.args.«package» in
    let own : Turn = record { thread = c.thread.result; number = c.next_number.result } in
    let laws = g.met.Q.Order g.world.𝓛 g.world.𝓜 g.world.𝓡 ((λ s x. x), (λ x. x), (λ x. x), λ x. x) in
    let same : i ≡ c.args.lock = laws.alone c.args.queue.now c.args.hall.now i c.args.lock c.requires.line.0 of c.requires.line.1 lined in
    let thread : own.thread ≡ q.context.thread = c.thread.ensures ∙ ap (λ (x : PackageView). x.context.thread) c.next_number.ensures.rest in
    let out : Has v q.context.thread (bare q) = is_there v.packages q.context.thread (bare q) (c.requires.parts.out.1.0.contexts q.context.thread (bare q) (ap (λ (b : Bool). if b then Some (bare q) else None) (eq_self q.context.thread))) in
    subst (λ (j : ℕ). HasStop v ⊎ EntersAs v j own) (sym same)
    (enters_as c.args.hall.now.terms v c.args.lock own q c.args.parts.now.aside (λ d e. (c.requires.parts.aside d e).free) thread c.requires.lines
    (subst (λ (t : ℕ). Has v t (bare q)) (sym thread) out) c.requires.may.want (wants_absent q c.args.lock c.requires.may.want c.requires.may.plain.locks) c.next_number.ensures.is lined)

pub acquire_first-requires-clause-lines : goal.acquire_first-requires-clause-lines
acquire_first-requires-clause-lines g c =
    let own : Turn = record { thread = c.thread.result; number = c.next_number.result } in
    let laws = g.met.Q.Order g.world.𝓛 g.world.𝓜 g.world.𝓡 ((λ s x. x), (λ x. x), (λ x. x), λ x. x) in
    is_first c.args.hall.now c.args.lock own c.args.«package» c.next_number.new.self c.args.parts.now c.enter.new.pass c.thread.ensures c.next_number.ensures.rest c.requires.parts c.requires.lines
    (first_past c.args.hall.now.terms c.args.lock own (λ (d : LineCall) (cs : List PassCall). g.Q.Order.notes c.args.queue.now d cs) c.args.parts.now.pass c.enter.new.pass (λ cs lined n. laws.lined c.args.queue.now c.args.hall.now c.args.lock (Enter own First) cs c.requires.line.0 c.requires.line.1 lined n) (c.in-First.ensures {u = tt}).told)

pub ship-requires-clause-stands : goal.ship-requires-clause-stands
ship-requires-clause-stands g c =
    let own : Turn = record { thread = c.thread.result; number = c.next_number.result } in
    let laws = g.met.Q.Order g.world.𝓛 g.world.𝓜 g.world.𝓡 ((λ s x. x), (λ x. x), (λ x. x), λ x. x) in
    let mark = g.Q.Order.mark c.in-Behind.place in
    let behind = is_behind c.args.hall.now c.args.lock own c.args.«package» c.next_number.new.self c.args.parts.now c.enter.new.pass c.thread.ensures c.next_number.ensures.rest c.requires.parts c.requires.lines c.requires.may mark (g.Q.Order.notes c.args.queue.now (Enter own (Behind mark)))
    (c.in-Behind.ensures {u = tt}).told (λ cs lined n. laws.lined c.args.queue.now c.args.hall.now c.args.lock (Enter own (Behind mark)) cs c.requires.line.0 c.requires.line.1 lined n) in
    ships_as c.args.hall.now.terms c.enter.new.pass.knows c.args.lock c.next_number.new.self c.args.parts.now.aside behind

pub link-requires-clause-stands : goal.link-requires-clause-stands
link-requires-clause-stands g c =
    let own : Turn = record { thread = c.thread.result; number = c.next_number.result } in
    let laws = g.met.Q.Order g.world.𝓛 g.world.𝓜 g.world.𝓡 ((λ s x. x), (λ x. x), (λ x. x), λ x. x) in
    let mark = g.Q.Order.mark c.in-Behind.place in
    let behind = is_behind c.args.hall.now c.args.lock own c.args.«package» c.next_number.new.self c.args.parts.now c.enter.new.pass c.thread.ensures c.next_number.ensures.rest c.requires.parts c.requires.lines c.requires.may mark (g.Q.Order.notes c.args.queue.now (Enter own (Behind mark)))
    (c.in-Behind.ensures {u = tt}).told (λ cs lined n. laws.lined c.args.queue.now c.args.hall.now c.args.lock (Enter own (Behind mark)) cs c.requires.line.0 c.requires.line.1 lined n) in
    λ i of lined. inr (links_as c.args.hall.now.terms c.ship.new.pass.knows i own c.args.parts.now.aside behind.free (ship_lines c.args.hall.now.terms c.enter.new.pass.knows c.args.lock c.next_number.new.self c.args.parts.now.aside behind c.ship.new.pass.knows c.ship.ensures.told) lined)

pub returns-in-Behind-clause-lines : goal.returns-in-Behind-clause-lines
returns-in-Behind-clause-lines g c =
    let own : Turn = record { thread = c.thread.result; number = c.next_number.result } in
    let laws = g.met.Q.Order g.world.𝓛 g.world.𝓜 g.world.𝓡 ((λ s x. x), (λ x. x), (λ x. x), λ x. x) in
    let mark = g.Q.Order.mark c.in-Behind.place in
    let behind = is_behind c.args.hall.now c.args.lock own c.args.«package» c.next_number.new.self c.args.parts.now c.enter.new.pass c.thread.ensures c.next_number.ensures.rest c.requires.parts c.requires.lines c.requires.may mark (g.Q.Order.notes c.args.queue.now (Enter own (Behind mark)))
    (c.in-Behind.ensures {u = tt}).told (λ cs lined n. laws.lined c.args.queue.now c.args.hall.now c.args.lock (Enter own (Behind mark)) cs c.requires.line.0 c.requires.line.1 lined n) in
    same_lines c.args.hall.now.terms c.ship.new.pass.knows c.link.new.pass.knows (packed c.args.parts.now.aside)
    (link_same c.args.hall.now.terms c.args.lock mark own (g.Q.Order.notes c.args.queue.now (Link mark own)) c.ship.new.pass c.link.new.pass c.link.ensures.told (λ lined. laws.lined c.args.queue.now c.args.hall.now c.args.lock (Link mark own) c.link.ensures.told.calls c.requires.line.0 c.requires.line.1 lined c.link.ensures.told.notes))
    (ship_lines c.args.hall.now.terms c.enter.new.pass.knows c.args.lock c.next_number.new.self c.args.parts.now.aside behind c.ship.new.pass.knows c.ship.ensures.told)
