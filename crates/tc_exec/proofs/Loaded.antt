-- A load that is wanted does not fault, and a step leaves the place behind the instruction.
use Rattle.std.proofs.Common.{◌≡◌, ℕ, ◌+◌, ◌%◌, ◌^◌, ◌==◌, Bool, true, false, refl}
use Rattle.std.specs.Prelude.{Some, None, if◌then◌else◌, slice_set}
use Rattle.tc_isa.specs.Registers.{Registers, with_register}
use Rattle.tc_isa.specs.declared.instr.LoadKind.{LoadKind}
use Rattle.tc_elf.specs.Shown.{Shown}
use Rattle.tc_elf.specs.Places.{region_of}
use Rattle.tc_elf.specs.declared.image.Region.{Region}
use Rattle.tc_exec.specs.Access.{load_width, fault_of_load, load_fault, nothing_or, load_want}
use Rattle.tc_exec.specs.Flow.{at_next}
use Rattle.tc_exec.specs.declared.outcome.Want.TheVariants as want

pub wanted : (image : Shown) (held : ℕ → Bool) (kind : LoadKind) (at : ℕ) (place : Region) (addr width : ℕ)
    → want.Load place addr width ≡ load_want image held kind at → None ≡ fault_of_load image held kind at
unfolding load_want
wanted image held kind at place addr width e =
    let there = region_of image at (load_width kind) in
    (elim (load_fault held there at (load_width kind)) as (λ f. want.Load place addr width ≡ nothing_or f (want.Load there at (load_width kind)) → None ≡ f) [
      | Some f ↦ λ w. absurd (cc)
      | None ↦ λ w. refl
    ]) e

-- a write to a register and a step lead to the next word
pub set_steps : (r : Registers) (rd value : ℕ) → (at_next (with_register r rd value)).pc ≡ (r.pc + 4) % 2 ^ 32
set_steps r rd value = by (rd == 0)
  where
    by : (b : Bool) → (at_next (if b then r else record r { words = slice_set r.words rd value })).pc ≡ (r.pc + 4) % 2 ^ 32
    by true = refl
    by false = refl
