-- Decoded words.
use Rattle.std.proofs.Common.{◌≡◌, ℕ, zero, suc, ◌+◌, ◌*◌, ◌++◌, length, subst, arith}
use Rattle.std.specs.Prelude.{List, [], ◌∷◌, Option, Some, slice_get}
use Rattle.tc_isa.specs.declared.instr.Instr.{Instr}
use Rattle.tc_elf.specs.Shown.{Shown}
use Rattle.tc_exec.specs.Code.{SlotTells, SlotsTell}
use Rattle.tc_exec.specs.Code.{PartsTell, IsTelling}
use Rattle.std.proofs.lemmas.Option.{get_or_from_slice_get, slice_get_within}
use Rattle.std.proofs.lemmas.List.Elements.{All-get_or}
use Rattle.tc_exec.specs.declared.code.Part.{Part}

pub slot_more : (image : Shown) (start : ℕ) (slots : List (Option Instr)) (s : Option Instr) → SlotsTell image start slots → SlotTells image (start + 4 * length slots) s → SlotsTell image start (slots ++ s ∷ [])
slot_more image start [] s t last = (subst (λ at. SlotTells image at s) (omega arith) last, tt)
slot_more image start (x ∷ xs) s t last = (t.0, slot_more image (start + 4) xs s t.1 (subst (λ at. SlotTells image at s) (omega arith) last))

pub slot_tells : (image : Shown) (start : ℕ) (slots : List (Option Instr)) (k : ℕ) (s : Option Instr) → SlotsTell image start slots → slice_get slots k ≡ Some s → SlotTells image (start + 4 * k) s
slot_tells image start [] k s t e = absurd (cc)
slot_tells image start (x ∷ xs) zero s t e = (let same : x ≡ s = cc in let here : SlotTells image start s = subst (λ (y : Option Instr). SlotTells image start y) same t.0 in subst (λ at. SlotTells image at s) (omega arith) here)
slot_tells image start (x ∷ xs) (suc k) s t e = subst (λ at. SlotTells image at s) (omega arith) (slot_tells image (start + 4) xs k s t.1 e)

pub part_tells : (image : Shown) (parts : List Part) (k : ℕ) (p : Part) → PartsTell image parts → slice_get parts k ≡ Some p → IsTelling image p.start p.slots.items
part_tells image parts k p all got =
    (let P : Part → Type 0 = λ p. IsTelling image p.start p.slots.items in
    subst P (get_or_from_slice_get parts k p p got) (All-get_or P parts k p (slice_get_within parts k p got) all))
