-- Code assembled from instructions, as an assembler reads them: registers by number, immediates in
-- two's complement.
use Rattle.std.specs.Prelude.{◌≡◌, ℕ, ◌-◌, ◌^◌, List, [], ◌∷◌, ◌++◌, map}
use Rattle.tc_isa.specs.Rows.{encoded}
use Rattle.tc_isa.specs.declared.instr.ImmOp.TheVariants.{Addi}
use Rattle.tc_isa.specs.declared.instr.LoadKind.TheVariants.{Lw}
use Rattle.tc_isa.specs.declared.instr.StoreKind.TheVariants.{Sw}
use Rattle.tc_isa.specs.declared.instr.Instr.{Instr}
use Rattle.tc_isa.specs.declared.instr.Instr.TheVariants.{Imm, Load, Store, Ecall}

-- the words of instructions, in order
unfoldable pub words_of : List Instr → List ℕ
words_of code = map encoded code

-- the words of these instructions were appended
abbrev pub Adds : List ℕ → List ℕ → List Instr → Type 0
Adds old new code = new ≡ old ++ words_of code

-- addi rd, rs1, imm
abbrev pub addi : ℕ → ℕ → ℕ → Instr
addi rd rs1 imm = Imm Addi rd rs1 imm

-- a guest call: its argument in x10, its number in x17
abbrev pub guest_call : ℕ → ℕ → List Instr
guest_call number argument = addi 10 0 argument ∷ addi 17 0 number ∷ Ecall ∷ []

abbrev pub lock : ℕ → List Instr
lock n = guest_call 1 n

abbrev pub unlock : ℕ → List Instr
unlock n = guest_call 2 n

abbrev pub sleep : ℕ → List Instr
sleep blocks = guest_call 3 blocks

-- the call that ends the thread; x10 is its exit code
abbrev pub exit : List Instr
exit = addi 17 0 93 ∷ Ecall ∷ []

-- adds to the word at an offset from x5, by x7
abbrev pub addition : ℕ → ℕ → List Instr
addition offset amount = Load Lw 7 5 offset ∷ addi 7 7 amount ∷ Store Sw 5 7 offset ∷ []

-- a negative number of 32 bits, in two's complement
abbrev pub negated : ℕ → ℕ
negated n = 2 ^ 32 - n
