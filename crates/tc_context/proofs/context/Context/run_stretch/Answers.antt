use Rattle.tc_context.proofs.Vocabulary.{◌≡◌, suc, ◌-◌, refl, ap, subst, ◌∙◌, arith, has, GoesOn, Registers, MayRun, IsGone, HasGone, fuelled}
use Rattle.tc_context.proofs.Stepping.{run_more, may_less, may_gone}
use Rattle.tc_context.proofs.context.Context.run_stretch.Goals as goal
use Rattle.tc_context.proofs.context.Context.run_stretch.Goals.{in-Next, in-Jumps}

pub step-requires-clause-may : goal.step-requires-clause-may
step-requires-clause-may c = may_less c.args.image.now (has c.args.block) c.run.left 1 c.run.self (omega (arith, c.run-test.true)) c.run.invariant.may

pub run-preserved : goal.run-preserved
run-preserved c =
    let image = c.args.image.now in
    let block = has c.args.block in
    let first = c.args.self.now in
    let now = c.run.invariant in
    let new = c.step.new.self in
    let gone : IsGone image block c.run.self new = elim c.match-step.branch [
      | in-Next w ↦ (subst (HasGone image block c.run.self new) w.in-Next.is c.step.ensures).0
      | in-Jumps w ↦ subst (HasGone image block c.run.self new) w.in-Jumps.is c.step.ensures
    ] in
    let count = c.args.most - c.run.left in
    let more : suc count ≡ c.args.most - (c.run.left - 1) = omega (arith, c.run-test.true, now.most) in
    let left : c.run.left ≡ suc (c.run.left - 1) = omega (arith, c.run-test.true) in
    record {
      runs = subst (λ n. GoesOn image block n first (fuelled (first.guest.fuel - n) new)) more (run_more image block count first.guest.fuel first c.run.self new (omega (arith, c.run-test.true, now.most, c.requires.fuel)) now.runs gone);
      fuel = gone.fuel ∙ now.fuel;
      most = omega (arith, now.most);
      slot = elim c.match-step.branch [
        | in-Next w ↦ λ low. omega (arith, low, w.slot-is, (subst (HasGone image block c.run.self new) w.in-Next.is c.step.ensures).1, now.slot c.in-Some.ensures.known, c.requires.telling.fits)
        | in-Jumps w ↦ λ low. omega (arith, w.slot-is, w.slot-slot-in-Jumps.ensures (omega (arith, low, w.slot-is)), w.pc-in-Jumps.ensures.value, ap (λ (r : Registers). r.pc) w.regs-in-Jumps.ensures)
      ];
      may = may_gone image block (c.run.left - 1) c.run.self new (subst (λ n. MayRun image block n c.run.self) left now.may) gone;
    }

pub run-init : goal.run-init
run-init c =
    let first = c.args.self.now in
    let none : 0 ≡ c.args.most - c.args.most = omega arith in
    let all : first.guest.fuel ≡ first.guest.fuel - 0 = omega arith in
    record {
      runs = subst (λ n. GoesOn c.args.image.now (has c.args.block) n first (fuelled (first.guest.fuel - n) first)) none (ap (λ n. fuelled n first) all);
      fuel = refl;
      most = omega arith;
      slot = λ low. omega (arith, low, c.slot-slot.ensures (omega (arith, low)), c.pc.ensures.value, ap (λ (r : Registers). r.pc) c.regs.ensures);
      may = c.requires.may;
    }
