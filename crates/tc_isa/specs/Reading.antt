-- How a word is decoded, from the six fields of the R form.
use Rattle.std.specs.Prelude.{◌≡◌, ℕ, ◌+◌, ◌-◌, ◌*◌, ◌/◌, ◌^◌, ◌<◌, ◌↔◌, ◌==◌, ◌&&◌, if◌then◌else◌, [], ◌∷◌, Option, Some, None}
use Rattle.std.specs.Option.{option_map}
use Rattle.tc_isa.specs.Rows.{bits, from_fields, r_fields, encoded, IsValid, Decodes}
use Rattle.tc_isa.specs.declared.fields.Fields.{Fields}
use Rattle.tc_isa.specs.declared.instr.Cond.{Cond}
use Rattle.tc_isa.specs.declared.instr.Cond.TheVariants as cond
use Rattle.tc_isa.specs.declared.instr.LoadKind.{LoadKind}
use Rattle.tc_isa.specs.declared.instr.LoadKind.TheVariants as load
use Rattle.tc_isa.specs.declared.instr.StoreKind.{StoreKind}
use Rattle.tc_isa.specs.declared.instr.StoreKind.TheVariants as store
use Rattle.tc_isa.specs.declared.instr.ImmOp.{ImmOp}
use Rattle.tc_isa.specs.declared.instr.ImmOp.TheVariants as imm
use Rattle.tc_isa.specs.declared.instr.RegOp.{RegOp}
use Rattle.tc_isa.specs.declared.instr.RegOp.TheVariants as op
use Rattle.tc_isa.specs.declared.instr.Instr.{Instr}
use Rattle.tc_isa.specs.declared.instr.Instr.TheVariants.{Lui, Auipc, Jal, Jalr, Branch, Load, Store, Imm, Op, Fence, Ecall, Ebreak}

abbrev pub word_of : Fields → ℕ
word_of f = from_fields (r_fields f.funct7 f.rs2 f.rs1 f.funct3 f.rd f.opcode)

pub record IsWithin (f : Fields) : Type 0 where
  pub funct7 : f.funct7 < 128
  pub rs2 : f.rs2 < 32
  pub rs1 : f.rs1 < 32
  pub funct3 : f.funct3 < 8
  pub rd : f.rd < 32
  pub opcode : f.opcode < 128

pub record IsSplit (word : ℕ) (f : Fields) : Type 0 where
  pub within : IsWithin f
  pub whole : word ≡ word_of f

-- a number of n bits, sign-extended to 32 bits
abbrev pub signed : ℕ → ℕ → ℕ
signed n x = x + x / 2 ^ (n - 1) * (2 ^ 32 - 2 ^ n)

abbrev pub cond_of : ℕ → Option Cond
cond_of n =
    if n == 0 then Some cond.Eq else if n == 1 then Some cond.Ne
    else if n == 4 then Some cond.Lt else if n == 5 then Some cond.Ge
    else if n == 6 then Some cond.Ltu else if n == 7 then Some cond.Geu
    else None

abbrev pub load_of : ℕ → Option LoadKind
load_of n =
    if n == 0 then Some load.Lb else if n == 1 then Some load.Lh
    else if n == 2 then Some load.Lw else if n == 4 then Some load.Lbu
    else if n == 5 then Some load.Lhu
    else None

abbrev pub store_of : ℕ → Option StoreKind
store_of n =
    if n == 0 then Some store.Sb else if n == 1 then Some store.Sh
    else if n == 2 then Some store.Sw
    else None

abbrev pub op_of : ℕ → ℕ → Option RegOp
op_of m n =
    if (m == 0) && (n == 0) then Some op.Add else if (m == 32) && (n == 0) then Some op.Sub
    else if (m == 0) && (n == 1) then Some op.Sll else if (m == 0) && (n == 2) then Some op.Slt
    else if (m == 0) && (n == 3) then Some op.Sltu else if (m == 0) && (n == 4) then Some op.Xor
    else if (m == 0) && (n == 5) then Some op.Srl else if (m == 32) && (n == 5) then Some op.Sra
    else if (m == 0) && (n == 6) then Some op.Or else if (m == 0) && (n == 7) then Some op.And
    else if (m == 1) && (n == 0) then Some op.Mul else if (m == 1) && (n == 1) then Some op.Mulh
    else if (m == 1) && (n == 2) then Some op.Mulhsu else if (m == 1) && (n == 3) then Some op.Mulhu
    else if (m == 1) && (n == 4) then Some op.Div else if (m == 1) && (n == 5) then Some op.Divu
    else if (m == 1) && (n == 6) then Some op.Rem else if (m == 1) && (n == 7) then Some op.Remu
    else None

abbrev pub imm_of : ℕ → ℕ → Option ImmOp
imm_of m n =
    if n == 0 then Some imm.Addi else if n == 2 then Some imm.Slti
    else if n == 3 then Some imm.Sltiu else if n == 4 then Some imm.Xori
    else if n == 6 then Some imm.Ori else if n == 7 then Some imm.Andi
    else if (n == 1) && (m == 0) then Some imm.Slli
    else if (n == 5) && (m == 0) then Some imm.Srli
    else if (n == 5) && (m == 32) then Some imm.Srai
    else None

-- ---- the immediates that the forms compose from the fields

-- bits 31 to 20 of the word
abbrev pub high_bits : Fields → ℕ
high_bits f = from_fields ((7, f.funct7) ∷ (5, f.rs2) ∷ [])

abbrev pub i_number : Fields → ℕ
i_number f = signed 12 (high_bits f)

abbrev pub s_number : Fields → ℕ
s_number f = signed 12 (from_fields ((7, f.funct7) ∷ (5, f.rd) ∷ []))

abbrev pub b_number : Fields → ℕ
b_number f =
    signed 13 (from_fields
    ((1, bits 6 6 f.funct7) ∷ (1, bits 0 0 f.rd) ∷ (6, bits 5 0 f.funct7) ∷ (4, bits 4 1 f.rd) ∷ (1, 0) ∷ []))

abbrev pub u_number : Fields → ℕ
u_number f = from_fields ((7, f.funct7) ∷ (5, f.rs2) ∷ (5, f.rs1) ∷ (3, f.funct3) ∷ (12, 0) ∷ [])

abbrev pub j_number : Fields → ℕ
j_number f =
    signed 21 (from_fields
    ((1, bits 6 6 f.funct7) ∷ (5, f.rs1) ∷ (3, f.funct3) ∷ (1, bits 0 0 f.rs2)
    ∷ (6, bits 5 0 f.funct7) ∷ (4, bits 4 1 f.rs2) ∷ (1, 0) ∷ []))

abbrev pub imm_number : ImmOp → Fields → ℕ
imm_number imm.Slli f = f.rs2
imm_number imm.Srli f = f.rs2
imm_number imm.Srai f = f.rs2
imm_number imm.Addi f = i_number f
imm_number imm.Slti f = i_number f
imm_number imm.Sltiu f = i_number f
imm_number imm.Xori f = i_number f
imm_number imm.Ori f = i_number f
imm_number imm.Andi f = i_number f

-- ---- the instruction of the fields

abbrev pub branch_of : Fields → Option Instr
branch_of f = option_map (λ k. Branch k f.rs1 f.rs2 (b_number f)) (cond_of f.funct3)

abbrev pub loaded_of : Fields → Option Instr
loaded_of f = option_map (λ k. Load k f.rd f.rs1 (i_number f)) (load_of f.funct3)

abbrev pub stored_of : Fields → Option Instr
stored_of f = option_map (λ k. Store k f.rs1 f.rs2 (s_number f)) (store_of f.funct3)

abbrev pub imm_instr_of : Fields → Option Instr
imm_instr_of f = option_map (λ o. Imm o f.rd f.rs1 (imm_number o f)) (imm_of f.funct7 f.funct3)

abbrev pub op_instr_of : Fields → Option Instr
op_instr_of f = option_map (λ o. Op o f.rd f.rs1 f.rs2) (op_of f.funct7 f.funct3)

abbrev pub system_of : Fields → Option Instr
system_of f =
    if (f.funct7 == 0) && (f.rs1 == 0) && (f.funct3 == 0) && (f.rd == 0)
    then (if f.rs2 == 0 then Some Ecall else if f.rs2 == 1 then Some Ebreak else None)
    else None

unfoldable pub instr_of : Fields → Option Instr
instr_of f =
    if f.opcode == 0x37 then Some (Lui f.rd (u_number f))
    else if f.opcode == 0x17 then Some (Auipc f.rd (u_number f))
    else if f.opcode == 0x6f then Some (Jal f.rd (j_number f))
    else if f.opcode == 0x67 then (if f.funct3 == 0 then Some (Jalr f.rd f.rs1 (i_number f)) else None)
    else if f.opcode == 0x63 then branch_of f
    else if f.opcode == 0x03 then loaded_of f
    else if f.opcode == 0x23 then stored_of f
    else if f.opcode == 0x13 then imm_instr_of f
    else if f.opcode == 0x33 then op_instr_of f
    else if f.opcode == 0x0f then (if f.funct3 == 0 then Some (Fence f.rd f.rs1 (high_bits f)) else None)
    else if f.opcode == 0x73 then system_of f
    else None

-- ---- the instruction of a word

abbrev pub fields_of : ℕ → Fields
fields_of word = record {
  funct7 = bits 31 25 word;
  rs2 = bits 24 20 word;
  rs1 = bits 19 15 word;
  funct3 = bits 14 12 word;
  rd = bits 11 7 word;
  opcode = bits 6 0 word;
}

unfoldable pub decoded : ℕ → Option Instr
decoded word = instr_of (fields_of word)

-- ---- how the rows and the reading of a word are related

-- a word has at most one instruction
abbrev pub OneInstruction : Type 0
OneInstruction = (word : ℕ) (i j : Instr) → word < 2 ^ 32 → Decodes word i → Decodes word j → i ≡ j

-- reading a word and the rows of the table agree
abbrev pub SameAsRows : Type 0
SameAsRows = (word : ℕ) (i : Instr) → word < 2 ^ 32 → (decoded word ≡ Some i) ↔ Decodes word i

-- `decode` after `encode`
abbrev pub DecodesAgain : Type 0
DecodesAgain = (i : Instr) → IsValid i → decoded (encoded i) ≡ Some i

-- `encode` after `decode`
abbrev pub EncodesBack : Type 0
EncodesBack = (word : ℕ) (i : Instr) → word < 2 ^ 32 → decoded word ≡ Some i → encoded i ≡ word
