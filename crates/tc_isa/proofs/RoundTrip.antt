-- The word of an instruction decodes to the instruction.
use Rattle.std.proofs.Common.{◌≡◌, ℕ, ◌<◌, ◌^◌, Some, sym, ◌∙◌, arith}
use Rattle.tc_isa.specs.Rows.{encoded, IsValid, Decodes}
use Rattle.tc_isa.specs.Reading.{decoded, fields_of, IsSplit}
use Rattle.tc_isa.specs.declared.instr.Instr.{Instr}
use Rattle.tc_isa.proofs.Laws.{again}

pub split_of : (word : ℕ) → word < 2 ^ 32 → IsSplit word (fields_of word)
split_of word h = record {
  within = record { funct7 = omega arith; rs2 = omega arith; rs1 = omega arith; funct3 = omega arith; rd = omega arith; opcode = omega arith };
  whole = omega arith;
}

pub there : (word : ℕ) (i : Instr) → word < 2 ^ 32 → Decodes word i → decoded word ≡ Some i
unfolding decoded
there word i h d = let s = split_of word h in (again i d.0).1 (fields_of word) s.within (sym s.whole ∙ d.1)

pub decodes_again : (word : ℕ) (i : Instr) → IsValid i → word ≡ encoded i → decoded word ≡ Some i
decodes_again word i v e = let small : word < 2 ^ 32 = rw e (again i v).0 in there word i small (v, e)
