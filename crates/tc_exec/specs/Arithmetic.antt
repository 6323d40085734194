-- Arithmetic on words of 32 bits (RISC-V Unprivileged ISA, RV32I, "Integer Computational Instructions", and the M extension, "Multiplication
-- Operations" and "Division Operations").
use Rattle.std.specs.Prelude.{ℕ, ◌+◌, ◌-◌, ◌*◌, ◌/◌, ◌%◌, ◌^◌, ◌==◌, ℤ, pos, ◌*ℤ◌, nat_lt, int_lt, int_div, int_rem, not, if◌then◌else◌, Bool, bit_and, bit_or, bit_xor}
use Rattle.std.specs.Int.{w32, w64, cast_signed, cast_unsigned, int_shr}
use Rattle.tc_isa.specs.declared.instr.RegOp.{RegOp}
use Rattle.tc_isa.specs.declared.instr.RegOp.TheVariants as op
use Rattle.tc_isa.specs.declared.instr.ImmOp.{ImmOp}
use Rattle.tc_isa.specs.declared.instr.ImmOp.TheVariants as imm
use Rattle.tc_isa.specs.declared.instr.Cond.{Cond}
use Rattle.tc_isa.specs.declared.instr.Cond.TheVariants as cond

-- sums and differences are modulo 2 ^ 32
abbrev pub plus : ℕ → ℕ → ℕ
plus a b = (a + b) % 2 ^ 32

abbrev pub minus : ℕ → ℕ → ℕ
minus a b = (a + (2 ^ 32 - b)) % 2 ^ 32

-- less as numbers in two's complement
abbrev pub less_signed : ℕ → ℕ → Bool
less_signed a b = int_lt (cast_signed w32 a) (cast_signed w32 b)

abbrev pub shifted_left : ℕ → ℕ → ℕ
shifted_left a by = a * 2 ^ by % 2 ^ 32

-- to the right: zeros come in
abbrev pub shifted_right : ℕ → ℕ → ℕ
shifted_right a by = a / 2 ^ by

-- to the right as a number in two's complement: copies of the sign bit come in
abbrev pub shifted_signed : ℕ → ℕ → ℕ
shifted_signed a by = cast_unsigned w32 (int_shr (cast_signed w32 a) by)

-- the number that a word is in two's complement
abbrev pub signed : ℕ → ℤ
signed a = cast_signed w32 a

-- the high 32 of the 64 bits of a product
abbrev pub high_half : ℤ → ℕ
high_half z = cast_unsigned w64 z / 2 ^ 32

-- the quotient as signed numbers, rounded toward zero: by 0 it has all bits set, and -2 ^ 31 by -1, which is 2 ^ 31, has the bits of -2 ^ 31
abbrev pub quotient : ℕ → ℕ → ℕ
quotient a b = if b == 0 then 2 ^ 32 - 1 else cast_unsigned w32 (int_div (signed a) (signed b))

-- its remainder, with the sign of the first: by 0 it is the first
abbrev pub remainder : ℕ → ℕ → ℕ
remainder a b = if b == 0 then a else cast_unsigned w32 (int_rem (signed a) (signed b))

-- the same as unsigned numbers
abbrev pub flag : Bool → ℕ
flag b = if b then 1 else 0

-- an operation on two registers; a shift is by the low five bits of the second
abbrev pub value_of : RegOp → ℕ → ℕ → ℕ
value_of op.Add a b = plus a b
value_of op.Sub a b = minus a b
value_of op.Sll a b = shifted_left a (b % 32)
value_of op.Slt a b = flag (less_signed a b)
value_of op.Sltu a b = flag (nat_lt a b)
value_of op.Xor a b = bit_xor a b
value_of op.Srl a b = shifted_right a (b % 32)
value_of op.Sra a b = shifted_signed a (b % 32)
value_of op.Or a b = bit_or a b
value_of op.And a b = bit_and a b
value_of op.Mul a b = a * b % 2 ^ 32
value_of op.Mulh a b = high_half (signed a *ℤ signed b)
value_of op.Mulhsu a b = high_half (signed a *ℤ pos b)
value_of op.Mulhu a b = high_half (pos a *ℤ pos b)
value_of op.Div a b = quotient a b
value_of op.Divu a b = if b == 0 then 2 ^ 32 - 1 else a / b
value_of op.Rem a b = remainder a b
value_of op.Remu a b = if b == 0 then a else a % b

-- an operation with an immediate is the one on registers with the immediate in the second's place
abbrev pub op_of_imm : ImmOp → RegOp
op_of_imm imm.Addi = op.Add
op_of_imm imm.Slti = op.Slt
op_of_imm imm.Sltiu = op.Sltu
op_of_imm imm.Xori = op.Xor
op_of_imm imm.Ori = op.Or
op_of_imm imm.Andi = op.And
op_of_imm imm.Slli = op.Sll
op_of_imm imm.Srli = op.Srl
op_of_imm imm.Srai = op.Sra

-- whether a branch on two registers is taken
abbrev pub is_taken : Cond → ℕ → ℕ → Bool
is_taken cond.Eq a b = a == b
is_taken cond.Ne a b = not (a == b)
is_taken cond.Lt a b = less_signed a b
is_taken cond.Ge a b = not (less_signed a b)
is_taken cond.Ltu a b = nat_lt a b
is_taken cond.Geu a b = not (nat_lt a b)
