use Rattle.std.proofs.Common.{◌≡◌, subst}
use Rattle.std.specs.Prelude.{Ok, IfSome}
use Rattle.tc_exec.specs.Step.{instruction_at}
use Rattle.tc_exec.proofs.NoLock.{other_instr}
use Rattle.tc_exec.proofs.code.calls_lock.Goals as goal

pub returns-in_default : goal.returns-in_default
returns-in_default c =
    let image = c.args.image.now in
    let regs = c.args.regs.now in
    let at : instruction_at image regs.pc ≡ Ok c.in-Some.instr.now = subst (λ o. IfSome o (λ i. instruction_at image regs.pc ≡ Ok i.now)) c.in-Some.is c.requires.known in
    other_instr image regs c.in-Some.instr.now at c.in_default.not-Ecall
