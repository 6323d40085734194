use Rattle.std.proofs.Common.{ℕ, [], ◌+◌, arith, refl, subst, Some, None}
use Rattle.tc_combiner.proofs.Vocabulary.{AskedTimes, Next, saw}
use Rattle.tc_combiner.specs.Vocabulary.{Asked}
use Rattle.tc_combiner.proofs.Acting.{asked_line, acts_then, tried_then}
use Rattle.tc_combiner.specs.Stances.{AskedSo}
use Rattle.tc_combiner.proofs.Stances.{same_past, same_then, stands_same}
use Rattle.tc_combiner.proofs.waits.find_next.Goals as goal

pub returns-in-Nobody-clause-looks : goal.returns-in-Nobody-clause-looks
returns-in-Nobody-clause-looks g c = let few = c.ask.ensures.once.2 in (c.ask.ensures.once.0, 0, c.ask.ensures.once.1, c.ask.ensures.acts.1, omega arith, omega arith)

pub returns-in-Next-clause-looks : goal.returns-in-Next-clause-looks
returns-in-Next-clause-looks g c = let few = c.ask.ensures.once.2 in (c.ask.ensures.once.0, 0, c.ask.ensures.once.1, c.ask.ensures.acts.1, omega arith, omega arith)

pub loop-init : goal.loop-init
loop-init g c =
    let once = c.ask.ensures.once in
    let asked = subst (λ (n : ℕ). AskedTimes n c.args.own (g.Q.Order.seen c.args.seat.now) (g.Q.Order.seen c.ask.new.seat)) (once.3 c.in-Unlinked.is) once.1 in
    (tt, tt, c.ask.ensures.acts.0, (0, asked, c.ask.ensures.acts.1), λ i of. subst (λ (a : Asked). AskedSo i c.args.own c.args.hall.now.terms c.args.pass.now.knows c.ask.new.pass.knows a) c.in-Unlinked.is (c.ask.ensures.so i of))

pub loop-preserved : goal.loop-preserved
loop-preserved g c =
    let e = c.in-Refused.ensures {u = tt} in
    let m = c.loop.invariant.3 in
    let asked = asked_line (m.0 + 1) 1 c.args.own (g.Q.Order.seen c.args.seat.now) (g.Q.Order.seen c.loop.seat) (g.Q.Order.seen c.try_next.new.seat) (Next c.args.own None) m.1 e.line (refl, tt) refl in
    (tt, tt, acts_then [] [] [] [] [] c.args.pass.now c.loop.pass c.try_next.new.pass c.loop.invariant.2 e.tried.0, (m.0 + 1, asked, tried_then 0 m.0 0 1 c.args.pass.now.knows c.loop.pass.knows c.try_next.new.pass.knows m.2 e.tried.1), λ i of. same_then c.args.hall.now.terms c.args.pass.now.knows c.loop.pass.knows c.try_next.new.pass.knows (c.loop.invariant.4 i of) (e.so i of))

pub returns-in-Stopped-clause-acts : goal.returns-in-Stopped-clause-acts
returns-in-Stopped-clause-acts g c = let e = c.in-Stopped.ensures {u = tt} in acts_then [] saw [] [] [] c.args.pass.now c.loop.pass c.try_next.new.pass c.loop.invariant.2 e.tried.0

pub returns-in-Stopped-clause-looks : goal.returns-in-Stopped-clause-looks
returns-in-Stopped-clause-looks g c =
    let e = c.in-Stopped.ensures {u = tt} in
    let m = c.loop.invariant.3 in
    let asked = asked_line (m.0 + 1) 1 c.args.own (g.Q.Order.seen c.args.seat.now) (g.Q.Order.seen c.loop.seat) (g.Q.Order.seen c.try_next.new.seat) (Next c.args.own None) m.1 e.line (refl, tt) refl in
    ((m.0 + 1) + 1, m.0 + 1, asked, tried_then 0 m.0 0 1 c.args.pass.now.knows c.loop.pass.knows c.try_next.new.pass.knows m.2 e.tried.1, omega arith, omega arith)

pub returns-in-Came-clause-acts : goal.returns-in-Came-clause-acts
returns-in-Came-clause-acts g c = let e = c.in-Came.ensures {u = tt} in acts_then [] [] [] [] [] c.args.pass.now c.loop.pass c.try_next.new.pass c.loop.invariant.2 e.tried.0

pub returns-in-Came-clause-looks : goal.returns-in-Came-clause-looks
returns-in-Came-clause-looks g c =
    let e = c.in-Came.ensures {u = tt} in
    let m = c.loop.invariant.3 in
    let asked = asked_line (m.0 + 1) 0 c.args.own (g.Q.Order.seen c.args.seat.now) (g.Q.Order.seen c.loop.seat) (g.Q.Order.seen c.try_next.new.seat) (Next c.args.own (Some c.in-Came.next)) m.1 e.line (refl, tt) refl in
    ((m.0 + 1) + 0, m.0 + 0, asked, tried_then 0 m.0 0 0 c.args.pass.now.knows c.loop.pass.knows c.try_next.new.pass.knows m.2 e.tried.1, omega arith, omega arith)

pub ask-requires-clause-stands : goal.ask-requires-clause-stands
ask-requires-clause-stands g c = λ κs b. c.requires.stands

pub try_next-requires-clause-stands : goal.try_next-requires-clause-stands
try_next-requires-clause-stands g c = λ κs b i of. stands_same c.args.hall.now.terms c.args.pass.now.knows c.loop.pass.knows (c.loop.invariant.4 i of) i _ (c.requires.stands i of)

pub returns-in-Nobody-clause-so : goal.returns-in-Nobody-clause-so
returns-in-Nobody-clause-so g c = λ i of. subst (λ (a : Asked). AskedSo i c.args.own c.args.hall.now.terms c.args.pass.now.knows c.ask.new.pass.knows a) c.in-Nobody.is (c.ask.ensures.so i of)

pub returns-in-Next-clause-so : goal.returns-in-Next-clause-so
returns-in-Next-clause-so g c = λ i of. subst (λ (a : Asked). AskedSo i c.args.own c.args.hall.now.terms c.args.pass.now.knows c.ask.new.pass.knows a) c.in-Next.is (c.ask.ensures.so i of)

pub returns-in-Stopped-clause-so : goal.returns-in-Stopped-clause-so
returns-in-Stopped-clause-so g c = λ i of. let so = (c.in-Stopped.ensures {u = tt}).so i of in (so.0, same_then c.args.hall.now.terms c.args.pass.now.knows c.loop.pass.knows c.try_next.new.pass.knows (c.loop.invariant.4 i of) so.1)

pub returns-in-Came-clause-so : goal.returns-in-Came-clause-so
returns-in-Came-clause-so g c = λ i of. same_past c.args.hall.now.terms c.args.pass.now.knows c.loop.pass.knows c.try_next.new.pass.knows _ (c.loop.invariant.4 i of) ((c.in-Came.ensures {u = tt}).so i of)
