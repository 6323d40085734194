-- What is read from the fields has their word for a row.
use Rattle.std.proofs.Common.{◌≡◌, ℕ, Bool, true, false, cond, eqb, Option, Some, None, refl, arith}
use Rattle.std.specs.Prelude.{IfSome}
use Rattle.std.specs.Option.{option_map}
use Rattle.std.proofs.lemmas.Bool.Decides.{nat_tests}
use Rattle.tc_isa.specs.Rows.{cond_code, load_code, store_code, op_code, Decodes}
use Rattle.tc_isa.specs.Reading.{instr_of, branch_of, loaded_of, stored_of, imm_instr_of, op_instr_of, system_of, cond_of, load_of, store_of, op_of, imm_of, word_of, IsWithin, imm_number}
use Rattle.tc_isa.specs.declared.fields.Fields.{Fields}
use Rattle.tc_isa.specs.declared.instr.ImmOp.{ImmOp}
use Rattle.tc_isa.specs.declared.instr.ImmOp.TheVariants as imm
use Rattle.tc_isa.specs.declared.instr.Instr.{Instr}
use Rattle.tc_isa.specs.declared.instr.Instr.TheVariants.{Imm}
use Rattle.tc_isa.proofs.Tables.{cond_back, load_back, store_back, op_back}

-- if a test holds, the first; else the second
pub by_test : {A : Type 0} (a b : ℕ) (x y : Option A) (P : A → Type 0) → (a ≡ b → IfSome x P) → IfSome y P → IfSome (cond (eqb a b) x y) P
by_test a b x y P first second =
    let P' : Bool → Type 0 = λ t. (t ≡ true → a ≡ b) → IfSome (cond t x y) P in
    elim (eqb a b) as P' [ true ↦ λ h. first (h refl) | false ↦ λ h. second ] (λ h. grind (arith, nat_tests))

pub by_map : {A B : Type 0} (o : Option A) (f : A → B) (Q : A → Type 0) (P : B → Type 0) → IfSome o Q → ((a : A) → Q a → P (f a)) → IfSome (option_map f o) P
by_map None f Q P q h = tt
by_map (Some a) f Q P q h = h a q

abbrev Row : Fields → Instr → Type 0
Row f i = Decodes (word_of f) i

branch : (f : Fields) → IsWithin f → f.opcode ≡ 99 → IfSome (branch_of f) (Row f)
branch f w e = by_map (cond_of f.funct3) _ (λ k. f.funct3 ≡ cond_code k) (Row f) (cond_back f.funct3) (λ k h. ((w.rs1, w.rs2, grind arith, omega arith), omega arith))

loaded : (f : Fields) → IsWithin f → f.opcode ≡ 3 → IfSome (loaded_of f) (Row f)
loaded f w e = by_map (load_of f.funct3) _ (λ k. f.funct3 ≡ load_code k) (Row f) (load_back f.funct3) (λ k h. ((w.rd, w.rs1, grind arith), omega arith))

stored : (f : Fields) → IsWithin f → f.opcode ≡ 0x23 → IfSome (stored_of f) (Row f)
stored f w e = by_map (store_of f.funct3) _ (λ k. f.funct3 ≡ store_code k) (Row f) (store_back f.funct3) (λ k h. ((w.rs1, w.rs2, grind arith), omega arith))

op_two : (f : Fields) → IsWithin f → f.opcode ≡ 0x33 → IfSome (op_instr_of f) (Row f)
op_two f w e = by_map (op_of f.funct7 f.funct3) _ (λ k. (f.funct7 ≡ (op_code k).0) × (f.funct3 ≡ (op_code k).1)) (Row f) (op_back f.funct7 f.funct3) (λ k h. ((w.rd, w.rs1, w.rs2), omega arith))

-- the two codes of an operation with a number
abbrev pub ImmCodes : ℕ → ℕ → ImmOp → Type 0
ImmCodes m n imm.Addi = n ≡ 0
ImmCodes m n imm.Slti = n ≡ 2
ImmCodes m n imm.Sltiu = n ≡ 3
ImmCodes m n imm.Xori = n ≡ 4
ImmCodes m n imm.Ori = n ≡ 6
ImmCodes m n imm.Andi = n ≡ 7
ImmCodes m n imm.Slli = (n ≡ 1) × (m ≡ 0)
ImmCodes m n imm.Srli = (n ≡ 5) × (m ≡ 0)
ImmCodes m n imm.Srai = (n ≡ 5) × (m ≡ 32)

imm_back : (m n : ℕ) → IfSome (imm_of m n) (ImmCodes m n)
imm_back m n = grind (arith, nat_tests)

imm_row : (f : Fields) → IsWithin f → f.opcode ≡ 0x13 → (k : ImmOp) → ImmCodes f.funct7 f.funct3 k → Row f (Imm k f.rd f.rs1 (imm_number k f))
imm_row f w e imm.Addi h = ((w.rd, w.rs1, grind arith), omega arith)
imm_row f w e imm.Slti h = ((w.rd, w.rs1, grind arith), omega arith)
imm_row f w e imm.Sltiu h = ((w.rd, w.rs1, grind arith), omega arith)
imm_row f w e imm.Xori h = ((w.rd, w.rs1, grind arith), omega arith)
imm_row f w e imm.Ori h = ((w.rd, w.rs1, grind arith), omega arith)
imm_row f w e imm.Andi h = ((w.rd, w.rs1, grind arith), omega arith)
imm_row f w e imm.Slli h = ((w.rd, w.rs1, w.rs2), omega arith)
imm_row f w e imm.Srli h = ((w.rd, w.rs1, w.rs2), omega arith)
imm_row f w e imm.Srai h = ((w.rd, w.rs1, w.rs2), omega arith)

imm_one : (f : Fields) → IsWithin f → f.opcode ≡ 0x13 → IfSome (imm_instr_of f) (Row f)
imm_one f w e = by_map (imm_of f.funct7 f.funct3) _ (ImmCodes f.funct7 f.funct3) (Row f) (imm_back f.funct7 f.funct3) (imm_row f w e)

system : (f : Fields) → IsWithin f → f.opcode ≡ 0x73 → IfSome (system_of f) (Row f)
system f w e = grind (arith, nat_tests)

pub sound : (f : Fields) → IsWithin f → IfSome (instr_of f) (Row f)
unfolding instr_of
sound f w =
    by_test f.opcode 0x37 _ _ (Row f) (λ e. ((w.rd, omega arith, omega arith), omega arith))
    (by_test f.opcode 0x17 _ _ (Row f) (λ e. ((w.rd, omega arith, omega arith), omega arith))
    (by_test f.opcode 0x6f _ _ (Row f) (λ e. ((w.rd, grind arith, omega arith), omega arith))
    (by_test f.opcode 0x67 _ _ (Row f) (λ e. by_test f.funct3 0 _ _ (Row f) (λ e0. ((w.rd, w.rs1, grind arith), omega arith)) tt)
    (by_test f.opcode 0x63 _ _ (Row f) (branch f w)
    (by_test f.opcode 0x03 _ _ (Row f) (loaded f w)
    (by_test f.opcode 0x23 _ _ (Row f) (stored f w)
    (by_test f.opcode 0x13 _ _ (Row f) (imm_one f w)
    (by_test f.opcode 0x33 _ _ (Row f) (op_two f w)
    (by_test f.opcode 0x0f _ _ (Row f) (λ e. by_test f.funct3 0 _ _ (Row f) (λ e0. ((w.rd, w.rs1, omega arith), omega arith)) tt)
    (by_test f.opcode 0x73 _ _ (Row f) (system f w) tt))))))))))
