-- A load or a store of a thread's own memory, or of a guard whose lock it holds, does not fault.
use Rattle.std.proofs.Common.{◌≡◌, ℕ, ◌+◌, ◌%◌, ◌^◌, ◌<◌, ◌≤◌, Bool, refl, sym, ap, subst, arith}
use Rattle.std.specs.Prelude.{Some, None}
use Rattle.tc_isa.specs.Registers.{Registers}
use Rattle.tc_isa.specs.declared.instr.LoadKind.{LoadKind}
use Rattle.tc_isa.specs.declared.instr.LoadKind.TheVariants as load_kind
use Rattle.tc_isa.specs.declared.instr.StoreKind.{StoreKind}
use Rattle.tc_isa.specs.declared.instr.StoreKind.TheVariants as store_kind
use Rattle.tc_elf.specs.Shown.{Shown}
use Rattle.tc_elf.specs.Places.{region_of}
use Rattle.tc_elf.specs.declared.image.Region.{Region}
use Rattle.tc_elf.specs.declared.image.Region.TheVariants as region
use Rattle.tc_exec.specs.Access.{load_width, store_width, extended, load_fault, store_fault, load_want, load, put_at, store, nothing_or}
use Rattle.tc_exec.specs.Flow.{at_next, set, faulted_or}
use Rattle.tc_exec.specs.Touch.{LiesIn, IsTouched}
use Rattle.tc_exec.specs.declared.touch.Touched.{Touched}
use Rattle.tc_exec.specs.declared.touch.Touched.TheVariants as touched
use Rattle.tc_exec.specs.declared.outcome.Act.TheVariants.{Next}
use Rattle.tc_exec.specs.declared.outcome.Want.TheVariants as want

load_free : (held : ℕ → Bool) (place : Region) (addr width : ℕ) (at : Touched) → LiesIn held place at → addr % width ≡ 0 → load_fault held place addr width ≡ None
load_free held region.Private addr width touched.Own lies e = rw e refl
load_free held region.Stack addr width touched.Own lies e = rw e refl
load_free held region.Text addr width touched.Own lies e = absurd (cc)
load_free held (region.Guard lock) addr width touched.Own lies e = absurd (cc)
load_free held region.Nothing addr width touched.Own lies e = absurd (cc)
load_free held place addr width (touched.Guard lock) lies e = subst (λ p. load_fault held p addr width ≡ None) (sym lies.0) (rw (e, lies.1) refl)

store_free : (held : ℕ → Bool) (place : Region) (addr width : ℕ) (at : Touched) → LiesIn held place at → addr % width ≡ 0 → store_fault held place addr width ≡ None
store_free held region.Private addr width touched.Own lies e = rw e refl
store_free held region.Stack addr width touched.Own lies e = rw e refl
store_free held region.Text addr width touched.Own lies e = absurd (cc)
store_free held (region.Guard lock) addr width touched.Own lies e = absurd (cc)
store_free held region.Nothing addr width touched.Own lies e = absurd (cc)
store_free held place addr width (touched.Guard lock) lies e = subst (λ p. store_fault held p addr width ≡ None) (sym lies.0) (rw (e, lies.1) refl)

pub load_ends : (kind : LoadKind) (addr : ℕ) → addr < 2 ^ 32 → addr % load_width kind ≡ 0 → (addr + load_width kind ≤ 2 ^ 32) × (load_width kind ≤ 4)
load_ends load_kind.Lb addr lt e = (omega arith, omega arith)
load_ends load_kind.Lh addr lt e = (omega arith, omega arith)
load_ends load_kind.Lw addr lt e = (omega arith, omega arith)
load_ends load_kind.Lbu addr lt e = (omega arith, omega arith)
load_ends load_kind.Lhu addr lt e = (omega arith, omega arith)

pub store_ends : (kind : StoreKind) (addr : ℕ) → addr < 2 ^ 32 → addr % store_width kind ≡ 0 → addr + store_width kind ≤ 2 ^ 32
store_ends store_kind.Sb addr lt e = omega arith
store_ends store_kind.Sh addr lt e = omega arith
store_ends store_kind.Sw addr lt e = omega arith

pub open_want : (image : Shown) (held : ℕ → Bool) (kind : LoadKind) (addr : ℕ) (at : Touched) → IsTouched image held addr (load_width kind) at
    → load_want image held kind addr ≡ want.Load (region_of image addr (load_width kind)) addr (load_width kind)
unfolding load_want
open_want image held kind addr at is =
    let width = load_width kind in
    let place = region_of image addr width in
    ap (λ f. nothing_or f (want.Load place addr width)) (load_free held place addr width at is.lies is.aligned)

pub open_load : (image : Shown) (held : ℕ → Bool) (r : Registers) (answer : ℕ) (kind : LoadKind) (rd addr : ℕ) (at : Touched) → IsTouched image held addr (load_width kind) at
    → load image held r answer kind rd addr ≡ set r rd (extended kind answer)
unfolding load
open_load image held r answer kind rd addr at is =
    let width = load_width kind in
    ap (λ f. faulted_or f (set r rd (extended kind answer))) (load_free held (region_of image addr width) addr width at is.lies is.aligned)

pub open_store : (image : Shown) (held : ℕ → Bool) (r : Registers) (kind : StoreKind) (addr value : ℕ) (at : Touched) → IsTouched image held addr (store_width kind) at
    → store image held r kind addr value ≡ Next (at_next r) (Some (put_at (region_of image addr (store_width kind)) addr (store_width kind) value))
unfolding store
open_store image held r kind addr value at is =
    let width = store_width kind in
    let place = region_of image addr width in
    ap (λ f. faulted_or f (Next (at_next r) (Some (put_at place addr width value)))) (store_free held place addr width at is.lies is.aligned)
