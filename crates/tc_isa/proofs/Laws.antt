-- Whatever gives an instruction's word has its fields, so that instruction is read.
use Rattle.std.proofs.Common.{◌≡◌, ℕ, ◌+◌, ◌*◌, ◌%◌, ◌^◌, ◌<◌, [], ◌∷◌, Some, refl, ◌∙◌, arith}
use Rattle.tc_isa.specs.Rows.{bits, from_fields, i_fields, r_fields, row, cond_code, load_code, store_code, op_code, IsSigned, IsValid}
use Rattle.tc_isa.specs.Reading.{instr_of, word_of, IsWithin, u_number, b_number, i_number, j_number, s_number}
use Rattle.tc_isa.specs.declared.fields.Fields.{Fields}
use Rattle.tc_isa.specs.declared.instr.Cond.{Cond}
use Rattle.tc_isa.specs.declared.instr.StoreKind.{StoreKind}
use Rattle.tc_isa.specs.declared.instr.ImmOp.TheVariants as imm
use Rattle.tc_isa.specs.declared.instr.Instr.{Instr}
use Rattle.tc_isa.specs.declared.instr.Instr.TheVariants.{Lui, Auipc, Jal, Jalr, Branch, Load, Store, Imm, Op, Fence, Ecall, Ebreak}
use Rattle.tc_isa.proofs.Tables.{cond_again, load_again, store_again, op_again, cond_fits, load_fits, store_fits, op_fits}

-- the word has 32 bits, and the instruction is read from any fields with it
abbrev pub Reads : ℕ → Instr → Type 0
Reads word i = (word < 2 ^ 32) × ((f : Fields) → IsWithin f → word_of f ≡ word → instr_of f ≡ Some i)

-- an upper number
upper : (make : ℕ → ℕ → Instr) (opcode rd n : ℕ) → opcode < 128 → ((f : Fields) → f.opcode ≡ opcode → instr_of f ≡ Some (make f.rd (u_number f)))
    → (rd < 32) × (n < 2 ^ 32) × (n % 2 ^ 12 ≡ 0) → Reads (from_fields ((20, bits 31 12 n) ∷ (5, rd) ∷ (7, opcode) ∷ [])) (make rd n)
upper make opcode rd n o read v = (
  omega arith,
  λ f w e.
      (let rd_is : f.rd ≡ rd = omega arith in
      let number : u_number f ≡ n = omega arith in
      read f (omega arith) ∙ (λ i. Some (make (rd_is i) (number i)))),
)

-- the I form with a number that is extended
i_form : (make : ℕ → ℕ → ℕ → Instr) (code opcode rd rs1 n : ℕ) → code < 8 → opcode < 128
    → ((f : Fields) → f.opcode ≡ opcode → f.funct3 ≡ code → instr_of f ≡ Some (make f.rd f.rs1 (i_number f)))
    → (rd < 32) × (rs1 < 32) × IsSigned 12 n → Reads (from_fields (i_fields (bits 11 0 n) rs1 code rd opcode)) (make rd rs1 n)
i_form make code opcode rd rs1 n c o read v = (
  omega arith,
  λ f w e.
      (let rd_is : f.rd ≡ rd = omega arith in
      let rs1_is : f.rs1 ≡ rs1 = omega arith in
      let number : i_number f ≡ n = omega arith in
      read f (omega arith) (omega arith) ∙ (λ i. Some (make (rd_is i) (rs1_is i) (number i)))),
)

-- the R form
r_form : (make : ℕ → ℕ → ℕ → Instr) (m n opcode rd rs1 rs2 : ℕ) → m < 128 → n < 8 → opcode < 128
    → ((f : Fields) → f.opcode ≡ opcode → f.funct7 ≡ m → f.funct3 ≡ n → instr_of f ≡ Some (make f.rd f.rs1 f.rs2))
    → (rd < 32) × (rs1 < 32) × (rs2 < 32) → Reads (from_fields (r_fields m rs2 rs1 n rd opcode)) (make rd rs1 rs2)
r_form make m n opcode rd rs1 rs2 a b o read v = (
  omega arith,
  λ f w e.
      (let rd_is : f.rd ≡ rd = omega arith in
      let rs1_is : f.rs1 ≡ rs1 = omega arith in
      let rs2_is : f.rs2 ≡ rs2 = omega arith in
      read f (omega arith) (omega arith) (omega arith) ∙ (λ i. Some (make (rd_is i) (rs1_is i) (rs2_is i)))),
)

branch : (k : Cond) (rs1 rs2 off : ℕ) → IsValid (Branch k rs1 rs2 off) → Reads (from_fields (row (Branch k rs1 rs2 off))) (Branch k rs1 rs2 off)
unfolding instr_of
branch k rs1 rs2 off v =
    let small = cond_fits k in (
      omega arith,
      λ f w e.
          (let opcode : f.opcode ≡ 99 = omega arith in
          let rs1_is : f.rs1 ≡ rs1 = omega arith in
          let rs2_is : f.rs2 ≡ rs2 = omega arith in
          let funct3_is : f.funct3 ≡ cond_code k = omega arith in
          let number : b_number f ≡ off = omega arith in
          rw (opcode, funct3_is, cond_again k, rs1_is, rs2_is, number) refl),
    )

stored : (k : StoreKind) (rs1 rs2 off : ℕ) → IsValid (Store k rs1 rs2 off) → Reads (from_fields (row (Store k rs1 rs2 off))) (Store k rs1 rs2 off)
unfolding instr_of
stored k rs1 rs2 off v =
    let small = store_fits k in (
      omega arith,
      λ f w e.
          (let opcode : f.opcode ≡ 35 = omega arith in
          let rs1_is : f.rs1 ≡ rs1 = omega arith in
          let rs2_is : f.rs2 ≡ rs2 = omega arith in
          let funct3_is : f.funct3 ≡ store_code k = omega arith in
          let number : s_number f ≡ off = omega arith in
          rw (opcode, funct3_is, store_again k, rs1_is, rs2_is, number) refl),
    )

-- the fields of a system call of this number
system : (n : ℕ) (f : Fields) → n < 32 → IsWithin f → word_of f ≡ n * 2 ^ 20 + 115 → (f.opcode ≡ 115) × (f.funct7 ≡ 0) × (f.rs1 ≡ 0) × (f.funct3 ≡ 0) × (f.rd ≡ 0) × (f.rs2 ≡ n)
system n f small w e = (omega arith, omega arith, omega arith, omega arith, omega arith, omega arith)

pub again : (i : Instr) → IsValid i → Reads (from_fields (row i)) i
unfolding instr_of
again (Lui rd n) v = upper Lui 55 rd n (omega arith) (λ f o. rw o refl) v
again (Auipc rd n) v = upper Auipc 23 rd n (omega arith) (λ f o. rw o refl) v
again (Jal rd off) v = (
  omega arith,
  λ f w e.
      (let opcode : f.opcode ≡ 111 = omega arith in
      let rd_is : f.rd ≡ rd = omega arith in
      let number : j_number f ≡ off = omega arith in
      rw (opcode, rd_is, number) refl),
)
again (Jalr rd rs1 off) v = i_form Jalr 0 103 rd rs1 off (omega arith) (omega arith) (λ f o c. rw (o, c) refl) v
again (Branch k rs1 rs2 off) v = branch k rs1 rs2 off v
again (Load k rd rs1 off) v = i_form (Load k) (load_code k) 3 rd rs1 off (load_fits k) (omega arith) (λ f o c. rw (o, c, load_again k) refl) v
again (Store k rs1 rs2 off) v = stored k rs1 rs2 off v
again (Imm imm.Addi rd rs1 n) v = i_form (Imm imm.Addi) 0 19 rd rs1 n (omega arith) (omega arith) (λ f o c. rw (o, c) refl) v
again (Imm imm.Slti rd rs1 n) v = i_form (Imm imm.Slti) 2 19 rd rs1 n (omega arith) (omega arith) (λ f o c. rw (o, c) refl) v
again (Imm imm.Sltiu rd rs1 n) v = i_form (Imm imm.Sltiu) 3 19 rd rs1 n (omega arith) (omega arith) (λ f o c. rw (o, c) refl) v
again (Imm imm.Xori rd rs1 n) v = i_form (Imm imm.Xori) 4 19 rd rs1 n (omega arith) (omega arith) (λ f o c. rw (o, c) refl) v
again (Imm imm.Ori rd rs1 n) v = i_form (Imm imm.Ori) 6 19 rd rs1 n (omega arith) (omega arith) (λ f o c. rw (o, c) refl) v
again (Imm imm.Andi rd rs1 n) v = i_form (Imm imm.Andi) 7 19 rd rs1 n (omega arith) (omega arith) (λ f o c. rw (o, c) refl) v
again (Imm imm.Slli rd rs1 n) v = r_form (Imm imm.Slli) 0 1 19 rd rs1 n (omega arith) (omega arith) (omega arith) (λ f o a b. rw (o, b, a) refl) v
again (Imm imm.Srli rd rs1 n) v = r_form (Imm imm.Srli) 0 5 19 rd rs1 n (omega arith) (omega arith) (omega arith) (λ f o a b. rw (o, b, a) refl) v
again (Imm imm.Srai rd rs1 n) v = r_form (Imm imm.Srai) 32 5 19 rd rs1 n (omega arith) (omega arith) (omega arith) (λ f o a b. rw (o, b, a) refl) v
again (Op k rd rs1 rs2) v =
    let fits = op_fits k in
    r_form (Op k) (op_code k).0 (op_code k).1 51 rd rs1 rs2 fits.0 fits.1 (omega arith) (λ f o a b. rw (o, b, a, op_again k) refl) v
again (Fence rd rs1 n) v = (
  omega arith,
  λ f w e.
      (let opcode : f.opcode ≡ 15 = omega arith in
      let rs1_is : f.rs1 ≡ rs1 = omega arith in
      let rd_is : f.rd ≡ rd = omega arith in
      let funct3_is : f.funct3 ≡ 0 = omega arith in
      let number : from_fields ((7, f.funct7) ∷ (5, f.rs2) ∷ []) ≡ n = omega arith in
      rw (opcode, funct3_is, rd_is, rs1_is, number) refl),
)
again Ecall v = (omega arith, λ f w e. (let p = system 0 f (omega arith) w e in rw (p.0, p.1, p.2, p.3, p.4, p.5) refl))
again Ebreak v = (omega arith, λ f w e. (let p = system 1 f (omega arith) w e in rw (p.0, p.1, p.2, p.3, p.4, p.5) refl))
