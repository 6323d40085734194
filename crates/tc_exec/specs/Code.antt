-- Decoded code, beside the image that it is of.
use Rattle.std.specs.Prelude.{◌≡◌, ℕ, ◌+◌, ◌*◌, ◌^◌, ◌≤◌, All, List, [], ◌∷◌, length, Option, Some, None, Ok}
use Rattle.tc_isa.specs.declared.instr.Instr.{Instr}
use Rattle.tc_elf.specs.Shown.{Shown}
use Rattle.tc_exec.specs.Step.{instruction_at}
use Rattle.tc_exec.specs.declared.code.Part.{Part}

-- a slot has the instruction of its place, or says nothing
abbrev pub SlotTells : Shown → ℕ → Option Instr → Type 0
SlotTells image pc None = Unit {0}
SlotTells image pc (Some instr) = instruction_at image pc ≡ Ok instr

-- each slot, of four bytes, from a place on
abbrev pub SlotsTell : Shown → ℕ → List (Option Instr) → Type 0
SlotsTell image pc [] = Unit {0}
SlotsTell image pc (slot ∷ slots) = SlotTells image pc slot × SlotsTell image (pc + 4) slots

-- the slots from a place on tell the truth, and end within the address space
pub record IsTelling (image : Shown) (start : ℕ) (slots : List (Option Instr)) : Type 0 where
  pub tells : SlotsTell image start slots
  pub fits : start + 4 * length slots ≤ 2 ^ 32

abbrev pub PartsTell : Shown → List Part → Type 0
PartsTell image parts = All (λ p. IsTelling image p.start p.slots.items) parts
