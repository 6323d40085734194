use Rattle.std.proofs.Common.{◌≡◌, ℕ, refl, subst}
use Rattle.tc_hall.specs.declared.board.PassCall.TheVariants.{Look}
use Rattle.tc_hall.specs.Steps.{after_look}
use Rattle.tc_workers.proofs.Passes.{ended_more, unmoved_call, unmoved_then}
use Rattle.tc_workers.proofs.calls.all_done.Goals as goal

pub returns-then-look-ne2-clause-unmoved : goal.returns-then-look-ne2-clause-unmoved
returns-then-look-ne2-clause-unmoved c = unmoved_then c.args.pass.now c.loop-t.pass c.look.new.pass c.loop-t.invariant.0 (unmoved_call c.loop-t.pass c.look.new.pass (Look c.loop-t.t c.look.result) c.look.ensures.own c.look.ensures.look (λ i s. refl, λ t n. refl))

pub returns-then-look-ne2-clause-looked : goal.returns-then-look-ne2-clause-looked
returns-then-look-ne2-clause-looked c = record { thread = c.loop-t.t; known = c.loop-t-test.true; between = c.loop-t.pass.knows; ended = c.loop-t.invariant.1; word = c.look.result; left = c.if-look-ne2.true; looked = c.look.ensures.look }

pub loop-t-preserved : goal.loop-t-preserved
loop-t-preserved c =
    let looked : c.look.new.pass.knows ≡ after_look c.loop-t.pass.knows c.loop-t.t 2 = subst (λ (n : ℕ). c.look.new.pass.knows ≡ after_look c.loop-t.pass.knows c.loop-t.t n) c.if-look-ne2.false c.look.ensures.look in
    (unmoved_then c.args.pass.now c.loop-t.pass c.look.new.pass c.loop-t.invariant.0 (unmoved_call c.loop-t.pass c.look.new.pass (Look c.loop-t.t 2) c.look.ensures.own looked (λ i s. refl, λ t n. refl)), ended_more c.loop-t.t c.args.pass.now.knows c.loop-t.pass.knows c.look.new.pass.knows c.loop-t.invariant.1 looked)
