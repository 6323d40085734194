-- Registers stay registers.
use Rattle.std.proofs.Common.{◌≡◌, ℕ, ◌%◌, sym, arith, inl, inr, subst}
use Rattle.std.specs.Prelude.{if◌then◌else◌, slice_set}
use Rattle.std.proofs.lemmas.Bool.Decides.{eqb_tells}
use Rattle.std.proofs.lemmas.Grind.{common_steps}
use Rattle.tc_isa.specs.Registers.{Registers, IsRegisters, with_register}
use Rattle.tc_exec.specs.Arithmetic.{plus}
use Rattle.tc_exec.specs.Flow.{at_place, at_next}

pub with_kept : (r : Registers) (n value : ℕ) → IsRegisters r → IsRegisters (with_register r n value)
with_kept r n value kept = elim (eqb_tells n 0) [
  | inl e ↦ subst (λ b. IsRegisters (if b then r else record { pc = r.pc; words = slice_set r.words n value })) (sym e.0) kept
  | inr e ↦
      (let changed : IsRegisters (record { pc = r.pc; words = slice_set r.words n value }) =
      record { count = grind (arith, common_steps); zero_stays = grind (arith, common_steps); aligned = kept.aligned } in
      subst (λ b. IsRegisters (if b then r else record { pc = r.pc; words = slice_set r.words n value })) (sym e.0) changed)
]

pub at_kept : (r : Registers) (pc : ℕ) → pc % 4 ≡ 0 → IsRegisters r → IsRegisters (at_place r pc)
at_kept r pc aligned kept = record { count = kept.count; zero_stays = kept.zero_stays; aligned = aligned }

pub at_next_kept : (r : Registers) → IsRegisters r → IsRegisters (at_next r)
at_next_kept r kept = (let before = kept.aligned in at_kept r (plus r.pc 4) (omega arith) kept)

-- behind the instruction, with a value in a register
pub set_kept : (r : Registers) (rd value : ℕ) → IsRegisters r → IsRegisters (at_next (with_register r rd value))
set_kept r rd value kept = at_next_kept (with_register r rd value) (with_kept r rd value kept)
