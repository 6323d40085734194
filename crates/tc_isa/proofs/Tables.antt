-- The codes of the variants, read back.
use Rattle.std.proofs.Common.{◌≡◌, ℕ, ◌<◌, Some, refl, arith}
use Rattle.std.specs.Prelude.{IfSome}
use Rattle.std.proofs.lemmas.Bool.Decides.{nat_tests}
use Rattle.tc_isa.specs.Rows.{cond_code, load_code, store_code, op_code}
use Rattle.tc_isa.specs.Reading.{cond_of, load_of, store_of, op_of}
use Rattle.tc_isa.specs.declared.instr.RegOp.{RegOp}
use Rattle.tc_isa.specs.declared.instr.RegOp.TheVariants as op
use Rattle.tc_isa.specs.declared.instr.Cond.{Cond}
use Rattle.tc_isa.specs.declared.instr.Cond.TheVariants as cond
use Rattle.tc_isa.specs.declared.instr.LoadKind.{LoadKind}
use Rattle.tc_isa.specs.declared.instr.LoadKind.TheVariants as load
use Rattle.tc_isa.specs.declared.instr.StoreKind.{StoreKind}
use Rattle.tc_isa.specs.declared.instr.StoreKind.TheVariants as store

pub cond_again : (k : Cond) → cond_of (cond_code k) ≡ Some k
cond_again cond.Eq = refl
cond_again cond.Ne = refl
cond_again cond.Lt = refl
cond_again cond.Ge = refl
cond_again cond.Ltu = refl
cond_again cond.Geu = refl

cond_small : (n : ℕ) → IfSome (cond_of n) (λ k. n < 8)
cond_small n = grind (arith, nat_tests)

pub cond_fits : (k : Cond) → cond_code k < 8
cond_fits k = rw (cond_again k) at (cond_small (cond_code k))

pub cond_back : (n : ℕ) → IfSome (cond_of n) (λ k. n ≡ cond_code k)
cond_back n = grind (arith, nat_tests)

pub load_again : (k : LoadKind) → load_of (load_code k) ≡ Some k
load_again load.Lb = refl
load_again load.Lh = refl
load_again load.Lw = refl
load_again load.Lbu = refl
load_again load.Lhu = refl

pub load_fits : (k : LoadKind) → load_code k < 8
load_fits load.Lb = omega arith
load_fits load.Lh = omega arith
load_fits load.Lw = omega arith
load_fits load.Lbu = omega arith
load_fits load.Lhu = omega arith

pub load_back : (n : ℕ) → IfSome (load_of n) (λ k. n ≡ load_code k)
load_back n = grind (arith, nat_tests)

pub store_again : (k : StoreKind) → store_of (store_code k) ≡ Some k
store_again store.Sb = refl
store_again store.Sh = refl
store_again store.Sw = refl

pub store_fits : (k : StoreKind) → store_code k < 8
store_fits store.Sb = omega arith
store_fits store.Sh = omega arith
store_fits store.Sw = omega arith

pub store_back : (n : ℕ) → IfSome (store_of n) (λ k. n ≡ store_code k)
store_back n = grind (arith, nat_tests)

pub op_again : (k : RegOp) → op_of (op_code k).0 (op_code k).1 ≡ Some k
op_again op.Add = refl
op_again op.Sub = refl
op_again op.Sll = refl
op_again op.Slt = refl
op_again op.Sltu = refl
op_again op.Xor = refl
op_again op.Srl = refl
op_again op.Sra = refl
op_again op.Or = refl
op_again op.And = refl
op_again op.Mul = refl
op_again op.Mulh = refl
op_again op.Mulhsu = refl
op_again op.Mulhu = refl
op_again op.Div = refl
op_again op.Divu = refl
op_again op.Rem = refl
op_again op.Remu = refl

op_small : (m n : ℕ) → IfSome (op_of m n) (λ k. (m < 128) × (n < 8))
op_small m n = grind (arith, nat_tests)

pub op_fits : (k : RegOp) → ((op_code k).0 < 128) × ((op_code k).1 < 8)
op_fits k = rw (op_again k) at (op_small (op_code k).0 (op_code k).1)

pub op_back : (m n : ℕ) → IfSome (op_of m n) (λ k. (m ≡ (op_code k).0) × (n ≡ (op_code k).1))
op_back m n = grind (arith, nat_tests)
