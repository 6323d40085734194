-- The rows of the instruction table: each instruction with the fields of its word, from the highest bit down.
use Rattle.std.specs.Prelude.{◌≡◌, ℕ, ◌+◌, ◌-◌, ◌*◌, ◌/◌, ◌%◌, ◌^◌, ◌<◌, ◌≤◌, ◌⊎◌, List, [], ◌∷◌}
use Rattle.tc_isa.specs.declared.instr.Cond.{Cond}
use Rattle.tc_isa.specs.declared.instr.Cond.TheVariants as cond
use Rattle.tc_isa.specs.declared.instr.LoadKind.{LoadKind}
use Rattle.tc_isa.specs.declared.instr.LoadKind.TheVariants as load
use Rattle.tc_isa.specs.declared.instr.StoreKind.{StoreKind}
use Rattle.tc_isa.specs.declared.instr.StoreKind.TheVariants as store
use Rattle.tc_isa.specs.declared.instr.ImmOp.{ImmOp}
use Rattle.tc_isa.specs.declared.instr.ImmOp.TheVariants as imm
use Rattle.tc_isa.specs.declared.instr.RegOp.{RegOp}
use Rattle.tc_isa.specs.declared.instr.RegOp.TheVariants as op
use Rattle.tc_isa.specs.declared.instr.Instr.{Instr}
use Rattle.tc_isa.specs.declared.instr.Instr.TheVariants.{Lui, Auipc, Jal, Jalr, Branch, Load, Store, Imm, Op, Fence, Ecall, Ebreak}

-- bits hi to lo of n, as imm[hi:lo] in the manual
abbrev pub bits : ℕ → ℕ → ℕ → ℕ
bits hi lo n = n / 2 ^ lo % 2 ^ (hi + 1 - lo)

-- fields by their number of bits and value, concatenated, from the highest down
abbrev pub after_fields : ℕ → List (ℕ × ℕ) → ℕ
after_fields high [] = high
after_fields high (field ∷ fields) = after_fields (high * 2 ^ field.0 + field.1) fields

abbrev pub from_fields : List (ℕ × ℕ) → ℕ
from_fields fields = after_fields 0 fields

-- the fields of the I form
abbrev pub i_fields : ℕ → ℕ → ℕ → ℕ → ℕ → List (ℕ × ℕ)
i_fields high rs1 funct3 rd opcode =
    (12, high) ∷ (5, rs1) ∷ (3, funct3) ∷ (5, rd) ∷ (7, opcode) ∷ []

-- the fields of the R form
abbrev pub r_fields : ℕ → ℕ → ℕ → ℕ → ℕ → ℕ → List (ℕ × ℕ)
r_fields funct7 rs2 rs1 funct3 rd opcode =
    (7, funct7) ∷ (5, rs2) ∷ (5, rs1) ∷ (3, funct3) ∷ (5, rd) ∷ (7, opcode) ∷ []

-- ---- codes of the variants

abbrev pub cond_code : Cond → ℕ
cond_code cond.Eq = 0
cond_code cond.Ne = 1
cond_code cond.Lt = 4
cond_code cond.Ge = 5
cond_code cond.Ltu = 6
cond_code cond.Geu = 7

abbrev pub load_code : LoadKind → ℕ
load_code load.Lb = 0
load_code load.Lh = 1
load_code load.Lw = 2
load_code load.Lbu = 4
load_code load.Lhu = 5

abbrev pub store_code : StoreKind → ℕ
store_code store.Sb = 0
store_code store.Sh = 1
store_code store.Sw = 2

abbrev pub op_code : RegOp → ℕ × ℕ
op_code op.Add = (0, 0)
op_code op.Sub = (32, 0)
op_code op.Sll = (0, 1)
op_code op.Slt = (0, 2)
op_code op.Sltu = (0, 3)
op_code op.Xor = (0, 4)
op_code op.Srl = (0, 5)
op_code op.Sra = (32, 5)
op_code op.Or = (0, 6)
op_code op.And = (0, 7)
op_code op.Mul = (1, 0)
op_code op.Mulh = (1, 1)
op_code op.Mulhsu = (1, 2)
op_code op.Mulhu = (1, 3)
op_code op.Div = (1, 4)
op_code op.Divu = (1, 5)
op_code op.Rem = (1, 6)
op_code op.Remu = (1, 7)

-- ---- rows

abbrev pub row : Instr → List (ℕ × ℕ)
row (Lui rd imm) = (20, bits 31 12 imm) ∷ (5, rd) ∷ (7, 0x37) ∷ []
row (Auipc rd imm) = (20, bits 31 12 imm) ∷ (5, rd) ∷ (7, 0x17) ∷ []
row (Jal rd off) = (1, bits 20 20 off) ∷ (10, bits 10 1 off) ∷ (1, bits 11 11 off) ∷ (8, bits 19 12 off) ∷ (5, rd) ∷ (7, 0x6f) ∷ []
row (Jalr rd rs1 off) = (12, bits 11 0 off) ∷ (5, rs1) ∷ (3, 0) ∷ (5, rd) ∷ (7, 0x67) ∷ []
row (Branch cond rs1 rs2 off) = (1, bits 12 12 off) ∷ (6, bits 10 5 off) ∷ (5, rs2) ∷ (5, rs1) ∷ (3, cond_code cond) ∷ (4, bits 4 1 off) ∷ (1, bits 11 11 off) ∷ (7, 0x63) ∷ []
row (Load kind rd rs1 off) = (12, bits 11 0 off) ∷ (5, rs1) ∷ (3, load_code kind) ∷ (5, rd) ∷ (7, 0x03) ∷ []
row (Store kind rs1 rs2 off) = (7, bits 11 5 off) ∷ (5, rs2) ∷ (5, rs1) ∷ (3, store_code kind) ∷ (5, bits 4 0 off) ∷ (7, 0x23) ∷ []
row (Imm imm.Addi rd rs1 n) = (12, bits 11 0 n) ∷ (5, rs1) ∷ (3, 0) ∷ (5, rd) ∷ (7, 0x13) ∷ []
row (Imm imm.Slti rd rs1 n) = (12, bits 11 0 n) ∷ (5, rs1) ∷ (3, 2) ∷ (5, rd) ∷ (7, 0x13) ∷ []
row (Imm imm.Sltiu rd rs1 n) = (12, bits 11 0 n) ∷ (5, rs1) ∷ (3, 3) ∷ (5, rd) ∷ (7, 0x13) ∷ []
row (Imm imm.Xori rd rs1 n) = (12, bits 11 0 n) ∷ (5, rs1) ∷ (3, 4) ∷ (5, rd) ∷ (7, 0x13) ∷ []
row (Imm imm.Ori rd rs1 n) = (12, bits 11 0 n) ∷ (5, rs1) ∷ (3, 6) ∷ (5, rd) ∷ (7, 0x13) ∷ []
row (Imm imm.Andi rd rs1 n) = (12, bits 11 0 n) ∷ (5, rs1) ∷ (3, 7) ∷ (5, rd) ∷ (7, 0x13) ∷ []
row (Imm imm.Slli rd rs1 n) = (7, 0) ∷ (5, n) ∷ (5, rs1) ∷ (3, 1) ∷ (5, rd) ∷ (7, 0x13) ∷ []
row (Imm imm.Srli rd rs1 n) = (7, 0) ∷ (5, n) ∷ (5, rs1) ∷ (3, 5) ∷ (5, rd) ∷ (7, 0x13) ∷ []
row (Imm imm.Srai rd rs1 n) = (7, 32) ∷ (5, n) ∷ (5, rs1) ∷ (3, 5) ∷ (5, rd) ∷ (7, 0x13) ∷ []
row (Op op rd rs1 rs2) = (7, (op_code op).0) ∷ (5, rs2) ∷ (5, rs1) ∷ (3, (op_code op).1) ∷ (5, rd) ∷ (7, 0x33) ∷ []
row (Fence rd rs1 imm) = (12, imm) ∷ (5, rs1) ∷ (3, 0) ∷ (5, rd) ∷ (7, 0x0f) ∷ []
row Ecall = (25, 0) ∷ (7, 0x73) ∷ []
row Ebreak = (12, 1) ∷ (13, 0) ∷ (7, 0x73) ∷ []

-- the word of an instruction
abbrev pub encoded : Instr → ℕ
encoded instr = from_fields (row instr)

-- a number from -2 ^ (n - 1) to 2 ^ (n - 1) - 1 in two's complement of 32 bits
abbrev pub IsSigned : ℕ → ℕ → Type 0
IsSigned n x = (x < 2 ^ (n - 1)) ⊎ ((2 ^ 32 - 2 ^ (n - 1) ≤ x) × (x < 2 ^ 32))

abbrev pub IsEven : ℕ → Type 0
IsEven x = x % 2 ≡ 0

abbrev pub IsImmediate : ImmOp → ℕ → Type 0
IsImmediate imm.Slli n = n < 32
IsImmediate imm.Srli n = n < 32
IsImmediate imm.Srai n = n < 32
IsImmediate imm.Addi n = IsSigned 12 n
IsImmediate imm.Slti n = IsSigned 12 n
IsImmediate imm.Sltiu n = IsSigned 12 n
IsImmediate imm.Xori n = IsSigned 12 n
IsImmediate imm.Ori n = IsSigned 12 n
IsImmediate imm.Andi n = IsSigned 12 n

-- fields in their ranges
abbrev pub IsValid : Instr → Type 0
IsValid (Lui rd imm) = (rd < 32) × (imm < 2 ^ 32) × (imm % 2 ^ 12 ≡ 0)
IsValid (Auipc rd imm) = (rd < 32) × (imm < 2 ^ 32) × (imm % 2 ^ 12 ≡ 0)
IsValid (Jal rd off) = (rd < 32) × IsSigned 21 off × IsEven off
IsValid (Jalr rd rs1 off) = (rd < 32) × (rs1 < 32) × IsSigned 12 off
IsValid (Branch cond rs1 rs2 off) = (rs1 < 32) × (rs2 < 32) × IsSigned 13 off × IsEven off
IsValid (Load kind rd rs1 off) = (rd < 32) × (rs1 < 32) × IsSigned 12 off
IsValid (Store kind rs1 rs2 off) = (rs1 < 32) × (rs2 < 32) × IsSigned 12 off
IsValid (Imm op rd rs1 imm) = (rd < 32) × (rs1 < 32) × IsImmediate op imm
IsValid (Op op rd rs1 rs2) = (rd < 32) × (rs1 < 32) × (rs2 < 32)
IsValid (Fence rd rs1 imm) = (rd < 32) × (rs1 < 32) × (imm < 2 ^ 12)
IsValid Ecall = Unit {0}
IsValid Ebreak = Unit {0}

-- a row has the word for the instruction, whose fields are in their ranges
abbrev pub Decodes : ℕ → Instr → Type 0
Decodes word instr = IsValid instr × (word ≡ encoded instr)
