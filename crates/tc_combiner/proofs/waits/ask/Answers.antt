use Rattle.std.proofs.Common.{refl, arith, ap, ◌∙◌, List, Option, Some, None, subst}
use Rattle.tc_combiner.proofs.Vocabulary.{Departure, Leave, LineCall, Next, PassCall, Turn, with_line}
use Rattle.tc_hall.proofs.Cases.{none_of}
use Rattle.tc_combiner.specs.Vocabulary.{Left}
use Rattle.tc_order.specs.Order.{Told}
use Rattle.tc_queue.specs.declared.turn.Departure.TheVariants.{Followed as Was_followed}
use Rattle.tc_combiner.proofs.Acting.{acts_lined, asked_both, tried_lined, asked_left, asked_line, asked_none}
use Rattle.tc_combiner.proofs.Stances.{followed_same, left_past, next_past, next_still, same_past, same_then, stands_same}
use Rattle.tc_combiner.proofs.waits.ask.Goals as goal

pub returns-in-Some-clause-once : goal.returns-in-Some-clause-once
returns-in-Some-clause-once g c =
    let seat = g.Q.Order.seen c.args.seat.now in
    let line = c.next.ensures.call ∙ ap (λ (o : Option Turn). with_line seat (Next c.args.own o)) c.in-Some.is in
    (0, asked_line 0 0 c.args.own seat seat (g.Q.Order.seen c.next.new.seat) (Next c.args.own (Some c.in-Some.next)) (asked_none c.args.own seat) line (refl, tt) refl, omega arith, λ e. let n : ⊥ = cc in absurd n)

pub returns-in-Left-clause-once : goal.returns-in-Left-clause-once
returns-in-Left-clause-once g c = (1, asked_left (g.Q.Order.seen c.args.seat.now) (g.Q.Order.seen c.next.new.seat) (g.Q.Order.seen c.leave.new.seat) c.args.own c.next.result c.leave.result c.next.ensures.call (none_of c.next.result c.in_default.not-Some) c.leave.ensures.call, omega arith, λ e. let n : ⊥ = cc in absurd n)

pub returns-in-Followed-clause-once : goal.returns-in-Followed-clause-once
returns-in-Followed-clause-once g c = (1, asked_left (g.Q.Order.seen c.args.seat.now) (g.Q.Order.seen c.next.new.seat) (g.Q.Order.seen c.leave.new.seat) c.args.own c.next.result c.leave.result c.next.ensures.call (none_of c.next.result c.in_default.not-Some) c.leave.ensures.call, omega arith, λ e. refl)

pub returns-in-Some-clause-acts : goal.returns-in-Some-clause-acts
returns-in-Some-clause-acts g c = (acts_lined _ _ _ c.next.ensures.told, tried_lined _ _ _ c.next.ensures.told)

pub returns-in-Left-clause-acts : goal.returns-in-Left-clause-acts
returns-in-Left-clause-acts g c = asked_both c.next.ensures.told c.leave.ensures.told

pub returns-in-Followed-clause-acts : goal.returns-in-Followed-clause-acts
returns-in-Followed-clause-acts g c = asked_both c.next.ensures.told c.leave.ensures.told

pub next-requires-clause-stands : goal.next-requires-clause-stands
next-requires-clause-stands g c = c.requires.stands

pub leave-requires-clause-stands : goal.leave-requires-clause-stands
leave-requires-clause-stands g c = λ i of.
    let laws = g.met.Q.Order g.world.𝓛 g.world.𝓜 g.world.𝓡 ((λ s x. x), (λ x. x), (λ x. x), λ x. x) in
    let noted : LineCall → List PassCall → Type 0 = λ (d : LineCall) (cs : List PassCall). g.Q.Order.notes c.args.queue.now d cs in
    let k = c.args.hall.now.terms in
    let none = next_still k i c.args.own noted c.args.pass.now c.next.new.pass (λ cs lined n. laws.lined c.args.queue.now c.args.hall.now i (Next c.args.own None) cs c.requires.own.1 of lined n) (subst (λ (o : Option Turn). Told (g.Q.Order.notes c.args.queue.now (Next c.args.own o)) c.args.pass.now c.next.new.pass) (none_of c.next.result c.in_default.not-Some) c.next.ensures.told) in
    stands_same k c.args.pass.now.knows c.next.new.pass.knows none i _ (c.requires.stands i of)

pub returns-in-Some-clause-so : goal.returns-in-Some-clause-so
returns-in-Some-clause-so g c = λ i of.
    let laws = g.met.Q.Order g.world.𝓛 g.world.𝓜 g.world.𝓡 ((λ s x. x), (λ x. x), (λ x. x), λ x. x) in
    let noted : LineCall → List PassCall → Type 0 = λ (d : LineCall) (cs : List PassCall). g.Q.Order.notes c.args.queue.now d cs in
    let k = c.args.hall.now.terms in
    next_past k i c.args.own c.in-Some.next noted c.args.pass.now c.next.new.pass (λ cs lined n. laws.lined c.args.queue.now c.args.hall.now i (Next c.args.own (Some c.in-Some.next)) cs c.requires.own.1 of lined n) (subst (λ (o : Option Turn). Told (g.Q.Order.notes c.args.queue.now (Next c.args.own o)) c.args.pass.now c.next.new.pass) c.in-Some.is c.next.ensures.told)

pub returns-in-Left-clause-so : goal.returns-in-Left-clause-so
returns-in-Left-clause-so g c = λ i of.
    let laws = g.met.Q.Order g.world.𝓛 g.world.𝓜 g.world.𝓡 ((λ s x. x), (λ x. x), (λ x. x), λ x. x) in
    let noted : LineCall → List PassCall → Type 0 = λ (d : LineCall) (cs : List PassCall). g.Q.Order.notes c.args.queue.now d cs in
    let k = c.args.hall.now.terms in
    let none = next_still k i c.args.own noted c.args.pass.now c.next.new.pass (λ cs lined n. laws.lined c.args.queue.now c.args.hall.now i (Next c.args.own None) cs c.requires.own.1 of lined n) (subst (λ (o : Option Turn). Told (g.Q.Order.notes c.args.queue.now (Next c.args.own o)) c.args.pass.now c.next.new.pass) (none_of c.next.result c.in_default.not-Some) c.next.ensures.told) in
    same_past k c.args.pass.now.knows c.next.new.pass.knows c.leave.new.pass.knows _ none
    (left_past k i c.args.own noted c.next.new.pass c.leave.new.pass (λ cs lined n. laws.lined c.args.queue.now c.args.hall.now i (Leave c.args.own Left) cs c.requires.own.1 of lined n) (subst (λ (d : Departure). Told (g.Q.Order.notes c.args.queue.now (Leave c.args.own d)) c.next.new.pass c.leave.new.pass) c.in-Left.is c.leave.ensures.told))

pub returns-in-Followed-clause-so : goal.returns-in-Followed-clause-so
returns-in-Followed-clause-so g c = λ i of.
    let laws = g.met.Q.Order g.world.𝓛 g.world.𝓜 g.world.𝓡 ((λ s x. x), (λ x. x), (λ x. x), λ x. x) in
    let noted : LineCall → List PassCall → Type 0 = λ (d : LineCall) (cs : List PassCall). g.Q.Order.notes c.args.queue.now d cs in
    let k = c.args.hall.now.terms in
    let none = next_still k i c.args.own noted c.args.pass.now c.next.new.pass (λ cs lined n. laws.lined c.args.queue.now c.args.hall.now i (Next c.args.own None) cs c.requires.own.1 of lined n) (subst (λ (o : Option Turn). Told (g.Q.Order.notes c.args.queue.now (Next c.args.own o)) c.args.pass.now c.next.new.pass) (none_of c.next.result c.in_default.not-Some) c.next.ensures.told) in
    same_then k c.args.pass.now.knows c.next.new.pass.knows c.leave.new.pass.knows none
    (followed_same k i c.args.own noted c.next.new.pass c.leave.new.pass (λ cs lined n. laws.lined c.args.queue.now c.args.hall.now i (Leave c.args.own Was_followed) cs c.requires.own.1 of lined n) (subst (λ (d : Departure). Told (g.Q.Order.notes c.args.queue.now (Leave c.args.own d)) c.next.new.pass c.leave.new.pass) c.in-Followed.is c.leave.ensures.told))
