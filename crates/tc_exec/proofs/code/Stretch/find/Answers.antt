use Rattle.std.proofs.Common.{refl, ◌≡◌, ◌*◌, ◌+◌, sym, subst, ◌∙◌, arith}
use Rattle.std.specs.Prelude.{Option, Some, slice_get, length}
use Rattle.std.proofs.lemmas.Option.{slice_get_read, get_or_from_slice_get}
use Rattle.std.proofs.lemmas.Bool.Decides.{nat_tests}
use Rattle.tc_isa.specs.declared.instr.Instr.{Instr}
use Rattle.tc_exec.specs.Code.{SlotTells}
use Rattle.tc_exec.proofs.Slots.{slot_tells}
use Rattle.tc_exec.proofs.code.Stretch.find.Goals as goal

pub returns-in-Some-clause-tells : goal.returns-in-Some-clause-tells
returns-in-Some-clause-tells c = λ image tells.
    let slots = c.args.self.now.slots.now in
    let at = c.args.slot in
    let one : Option Instr = c.index-self-slot.result in
    let got : slice_get slots at ≡ Some one = slice_get_read slots (length slots) at one refl (grind (arith, nat_tests)) c.index-self-slot.is in
    subst (λ (o : Option Instr). SlotTells image (c.args.self.now.start + 4 * at) o) (sym (get_or_from_slice_get slots at one one got) ∙ c.in-Some.is) (slot_tells image c.args.self.now.start slots at one tells got)
