use Rattle.std.proofs.Common.{rules, Some, sym, subst}
use Rattle.tc_workers.specs.declared.step.Step.{Step}
use Rattle.tc_workers.specs.Worker.{IsAtDesk, IsStep}
use Rattle.tc_workers.proofs.Desks.{after_acquire}
use Rattle.tc_workers.proofs.step_with.ask_for_lock.Goals as goal

pub returns-clause-steps : goal.returns-clause-steps
returns-clause-steps g c =
    let b = c.args.bench.now in
    let q = c.args.«package» in
    let e = c.acquire_lock-settled.new.self in
    let did = c.acquire_lock-settled.ensures in
    let at = subst (IsAtDesk b (Some q)) (sym c.number-number.ensures.same) c.requires.work.desk in
    let after = subst (λ (s : Step). IsStep b e s) (sym c.conclude.ensures.step) (after_acquire b q c.number-number.new.desk e c.acquire_lock-settled.result did.keeps at.seat c.keeps.ensures.sound at.next.together did.acquired) in
    search rules
