use Rattle.std.proofs.Common.{◌≡◌, ◌==◌, ◌∙◌, false, inl, inr, ap, sym, arith}
use Rattle.std.specs.Prelude.{Some}
use Rattle.std.proofs.lemmas.Bool.Decides.{eqb_tells, nat_tests}
use Rattle.tc_isa.specs.Registers.{get}
use Rattle.tc_isa.specs.Reading.{decoded}
use Rattle.tc_isa.specs.declared.instr.Instr.TheVariants.{Ecall}
use Rattle.tc_elf.specs.Places.{fetched}
use Rattle.tc_exec.proofs.NoLock.{other_number, other_word, no_word, calls}
use Rattle.tc_exec.proofs.step.may_lock.Goals as goal

pub returns-then-not-is_numbered_lock : goal.returns-then-not-is_numbered_lock
returns-then-not-is_numbered_lock c = λ held answer.
    let other : (get c.args.regs.now 17 == 1) ≡ false = (let a = c.is_numbered_lock.ensures in let b = c.if-not-is_numbered_lock.true in grind (arith, nat_tests)) in
    other_number c.args.image.now held c.args.regs.now answer other

pub returns-in-Some : goal.returns-in-Some
returns-in-Some c =
    let image = c.args.image.now in
    let regs = c.args.regs.now in
    let word = c.in-Some.word in
    let at : fetched image regs.pc ≡ Some word = ap (fetched image) (sym c.pc.ensures.value) ∙ sym c.fetch.ensures ∙ c.in-Some.is in
    elim (eqb_tells word 115) [
      | inl e ↦ rw e.0
          (let number : get regs 17 ≡ 1 = (let a = c.is_numbered_lock.ensures in let b = c.if-not-is_numbered_lock.false in grind (arith, nat_tests)) in
          calls image regs word number at (ap decoded e.1 ∙ c.rows_decide.ensures.again Ecall tt))
      | inr e ↦ rw e.0 (λ held answer. other_word image held regs answer word at (λ d. (let is : 115 ≡ word = c.rows_decide.ensures.back word Ecall (omega arith) d in e.1 (sym is))))
    ]

pub returns-in-None : goal.returns-in-None
returns-in-None c = λ held answer.
    no_word c.args.image.now held c.args.regs.now answer (ap (fetched c.args.image.now) (sym c.pc.ensures.value) ∙ sym c.fetch.ensures ∙ c.in-None.is)
