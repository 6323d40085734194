use Rattle.std.proofs.Common.{Bool, List, [], subst, Option, Some, None}
use Rattle.tc_combiner.proofs.Vocabulary.{Acts, LineCall, Next, PassCall, Turn, saw_if}
use Rattle.tc_order.specs.Order.{Told}
use Rattle.tc_combiner.proofs.Acting.{acts_lined, acts_then, tried_lined, tried_then}
use Rattle.tc_combiner.proofs.Stances.{next_past, next_still, same_then}
use Rattle.tc_combiner.proofs.waits.try_next.Goals as goal

pub returns-in-Some-clause-tried : goal.returns-in-Some-clause-tried
returns-in-Some-clause-tried g c = (acts_lined _ _ _ c.next.ensures.told, tried_lined _ _ _ c.next.ensures.told, c.next.ensures.turn c.in-Some.next c.in-Some.is)

pub returns-then-stopped-clause-tried : goal.returns-then-stopped-clause-tried
returns-then-stopped-clause-tried g c = (
  acts_then [] _ [] [] [] c.args.pass.now c.next.new.pass c.stopped.new.pass (acts_lined _ _ _ c.next.ensures.told) (subst (λ (b : Bool). Acts (saw_if b) [] [] c.next.new.pass c.stopped.new.pass) c.if-stopped.true c.stopped.ensures.acts),
  tried_then 0 0 0 1 c.args.pass.now.knows c.next.new.pass.knows c.stopped.new.pass.knows (tried_lined _ _ _ c.next.ensures.told) c.stopped.ensures.tried,
)

pub returns-else-stopped-clause-tried : goal.returns-else-stopped-clause-tried
returns-else-stopped-clause-tried g c = (
  acts_then [] _ [] [] [] c.args.pass.now c.next.new.pass c.stopped.new.pass (acts_lined _ _ _ c.next.ensures.told) (subst (λ (b : Bool). Acts (saw_if b) [] [] c.next.new.pass c.stopped.new.pass) c.if-stopped.false c.stopped.ensures.acts),
  tried_then 0 0 0 1 c.args.pass.now.knows c.next.new.pass.knows c.stopped.new.pass.knows (tried_lined _ _ _ c.next.ensures.told) c.stopped.ensures.tried,
)

pub next-requires-clause-stands : goal.next-requires-clause-stands
next-requires-clause-stands g c = c.requires.stands

pub returns-in-Some-clause-so : goal.returns-in-Some-clause-so
returns-in-Some-clause-so g c = λ i of.
    let laws = g.met.Q.Order g.world.𝓛 g.world.𝓜 g.world.𝓡 ((λ s x. x), (λ x. x), (λ x. x), λ x. x) in
    let noted : LineCall → List PassCall → Type 0 = λ (d : LineCall) (cs : List PassCall). g.Q.Order.notes c.args.queue.now d cs in
    let k = c.args.hall.now.terms in
    next_past k i c.args.own c.in-Some.next noted c.args.pass.now c.next.new.pass (λ cs lined n. laws.lined c.args.queue.now c.args.hall.now i (Next c.args.own (Some c.in-Some.next)) cs c.requires.line of lined n) (subst (λ (o : Option Turn). Told (g.Q.Order.notes c.args.queue.now (Next c.args.own o)) c.args.pass.now c.next.new.pass) c.in-Some.is c.next.ensures.told)

pub returns-then-stopped-clause-so : goal.returns-then-stopped-clause-so
returns-then-stopped-clause-so g c = λ i of.
    let laws = g.met.Q.Order g.world.𝓛 g.world.𝓜 g.world.𝓡 ((λ s x. x), (λ x. x), (λ x. x), λ x. x) in
    let noted : LineCall → List PassCall → Type 0 = λ (d : LineCall) (cs : List PassCall). g.Q.Order.notes c.args.queue.now d cs in
    let k = c.args.hall.now.terms in (
      c.stopped.ensures.seen c.if-stopped.true,
      same_then k c.args.pass.now.knows c.next.new.pass.knows c.stopped.new.pass.knows
          (next_still k i c.args.own noted c.args.pass.now c.next.new.pass (λ cs lined n. laws.lined c.args.queue.now c.args.hall.now i (Next c.args.own None) cs c.requires.line of lined n) (subst (λ (o : Option Turn). Told (g.Q.Order.notes c.args.queue.now (Next c.args.own o)) c.args.pass.now c.next.new.pass) c.in-None.is c.next.ensures.told))
          c.stopped.ensures.same,
    )

pub returns-else-stopped-clause-so : goal.returns-else-stopped-clause-so
returns-else-stopped-clause-so g c = λ i of.
    let laws = g.met.Q.Order g.world.𝓛 g.world.𝓜 g.world.𝓡 ((λ s x. x), (λ x. x), (λ x. x), λ x. x) in
    let noted : LineCall → List PassCall → Type 0 = λ (d : LineCall) (cs : List PassCall). g.Q.Order.notes c.args.queue.now d cs in
    let k = c.args.hall.now.terms in
    same_then k c.args.pass.now.knows c.next.new.pass.knows c.stopped.new.pass.knows
    (next_still k i c.args.own noted c.args.pass.now c.next.new.pass (λ cs lined n. laws.lined c.args.queue.now c.args.hall.now i (Next c.args.own None) cs c.requires.line of lined n) (subst (λ (o : Option Turn). Told (g.Q.Order.notes c.args.queue.now (Next c.args.own o)) c.args.pass.now c.next.new.pass) c.in-None.is c.next.ensures.told))
    c.stopped.ensures.same
