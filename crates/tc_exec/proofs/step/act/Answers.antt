use Rattle.std.proofs.Common.{◌≡◌, ◌∙◌, subst, sym}
use Rattle.tc_isa.specs.Sets.{has}
use Rattle.tc_exec.specs.InPlace.{act_from}
use Rattle.tc_exec.specs.Step.{act_of}
use Rattle.tc_exec.specs.Told.{IsAct}
use Rattle.tc_exec.specs.declared.outcome.Act.{Act}
use Rattle.tc_exec.proofs.Cases.{act_told}
use Rattle.tc_exec.proofs.DoneTold.{act_again}
use Rattle.tc_exec.proofs.step.act.Goals as goal
use Rattle.tc_exec.proofs.step.act.Goals.{After-act}

result_is : (c : After-act) → c.act.result ≡ act_of c.args.image.now (has c.args.held) c.args.regs.now c.args.answer
result_is c =
    c.act.ensures ∙ (λ i. act_from (c.go-done.ensures.goes.done i) (c.go-done.ensures.goes.regs i))
    ∙ act_again (act_of c.args.image.now (has c.args.held) c.args.regs.now c.args.answer) c.args.regs.now

pub returns-in-Ok : goal.returns-in-Ok
returns-in-Ok c =
    let P : Act → Type 0 = IsAct c.args.image.now (has c.args.held) c.args.regs.now in
    record { value = result_is c; told = subst P (sym (result_is c)) (act_told c.args.image.now (has c.args.held) c.args.regs.now c.args.answer) }
