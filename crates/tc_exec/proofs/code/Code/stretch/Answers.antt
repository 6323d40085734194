use Rattle.std.proofs.Common.{refl, ◌≡◌, sym, subst, arith}
use Rattle.std.specs.Prelude.{List, Option, Some, slice_get, length}
use Rattle.std.proofs.lemmas.Option.{slice_get_read}
use Rattle.tc_isa.specs.declared.instr.Instr.{Instr}
use Rattle.tc_elf.specs.Shown.{Shown}
use Rattle.tc_exec.specs.Code.{PartsTell, IsTelling}
use Rattle.tc_exec.specs.declared.code.Part.{Part}
use Rattle.tc_exec.proofs.Slots.{part_tells}
use Rattle.tc_exec.proofs.code.Code.stretch.Goals as goal
use Rattle.tc_exec.proofs.code.Code.stretch.Goals.{After-deref}

told : (c : After-deref) → IsTelling c.args.self.now c.part-item.result.start c.part-item.result.slots.items
told c =
    let image : Shown = c.args.self.now in
    let part : Part = c.part-item.result in
    let all : List Part = c.deref-part-items.result.now in
    let inv : PartsTell image all = subst (λ (ps : List Part). PartsTell image ps) (sym c.deref-part-items.ensures.value) (subst (λ (i : Shown). PartsTell i c.self.inside.parts.items) c.self.view_is c.self.invariant) in
    let got : slice_get all c.parts.part-index ≡ Some part = slice_get_read all (length all) c.parts.part-index part refl (grind (arith)) c.part-item.is in
    part_tells image all c.parts.part-index part inv got

pub returns-then-has_place : goal.returns-then-has_place
returns-then-has_place c =
    subst (λ (ss : List (Option Instr)). IsTelling c.args.self.now c.part-item.result.start ss) (sym c.deref.ensures.value) (told c)
