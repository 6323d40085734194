-- The eight things that an instruction may be, and what is true of its load, store and guest call.
use Rattle.std.proofs.Common.{◌≡◌, ℕ, ◌*◌, ◌%◌, ◌/◌, ◌<◌, ◌≤◌, ◌^◌, Bool, true, false, refl, arith, inl, inr}
use Rattle.std.specs.Prelude.{Option, Some, None, Ok, Err, ◌==◌, if◌then◌else◌}
use Rattle.std.proofs.lemmas.Bool.{eqb-true}
use Rattle.std.proofs.lemmas.Bool.Decides.{nat_tests}
use Rattle.tc_isa.specs.Registers.{Registers, IsRegisters, get}
use Rattle.tc_isa.specs.declared.limits.TheConstants.{MAX_SLEEP}
use Rattle.tc_isa.specs.declared.fault.Fault.{Fault}
use Rattle.tc_isa.specs.declared.fault.Fault.TheVariants as fault
use Rattle.tc_isa.specs.declared.instr.LoadKind.{LoadKind}
use Rattle.tc_isa.specs.declared.instr.LoadKind.TheVariants as load_kind
use Rattle.tc_isa.specs.declared.instr.StoreKind.{StoreKind}
use Rattle.tc_isa.specs.declared.instr.StoreKind.TheVariants as store_kind
use Rattle.tc_isa.specs.declared.instr.Instr.{Instr}
use Rattle.tc_isa.specs.declared.instr.Instr.TheVariants.{Lui, Auipc, Jal, Jalr, Branch, Load, Store, Imm, Op, Fence, Ecall, Ebreak}
use Rattle.tc_elf.specs.Shown.{Shown}
use Rattle.tc_elf.specs.Places.{region_of}
use Rattle.tc_elf.specs.declared.image.Region.{Region}
use Rattle.tc_elf.specs.declared.image.Region.TheVariants as region
use Rattle.tc_exec.proofs.Ascending.{above_all, above_itself}
use Rattle.tc_exec.proofs.Kept.{with_kept, at_kept, at_next_kept, set_kept}
use Rattle.tc_exec.specs.Arithmetic.{plus, value_of, op_of_imm, is_taken}
use Rattle.tc_exec.specs.Flow.{at_place, at_next, set, jump_to, faulted_or}
use Rattle.tc_exec.specs.Access.{load_width, store_width, extended, load_fault, store_fault, nothing_or, load_want, load, put_at, store}
use Rattle.tc_exec.specs.Calls.{is_above_held, lock_fault, unlock_fault, sleep_fault, answered, guest_call}
use Rattle.tc_exec.specs.Step.{instruction_at, wants_by, act_by, wants_from, act_from, wants_of, act_of}
use Rattle.tc_exec.specs.Statements.{CallsLock}
use Rattle.tc_exec.specs.Told.{IsWidth, IsOpen, IsOpenToStores, IsLoad, IsPut, IsLock, IsUnlock, IsWant, IsAct}
use Rattle.tc_exec.specs.declared.outcome.Act.{Act}
use Rattle.tc_exec.specs.declared.outcome.Act.TheVariants.{Next, Called, Faulted}
use Rattle.tc_exec.specs.declared.outcome.Call.TheVariants.{Lock, Unlock, Sleep, Exit}
use Rattle.tc_exec.specs.declared.outcome.Put.{Put}
use Rattle.tc_exec.specs.declared.outcome.Want.{Want}
use Rattle.tc_exec.specs.declared.outcome.Want.TheVariants as want

-- what is true of each of these, of what it does by the answer and of what it loads, is true of the next instruction
pub record Cases (image : Shown) (held : ℕ → Bool) (r : Registers) (P : (ℕ → Act) → Want → Type 0) : Type 0 where
  pub goes : (next : Registers) → (IsRegisters r → IsRegisters next) → P (λ answer. Next next None) want.Nothing
  pub faults : (f : Fault) → P (λ answer. Faulted f) want.Nothing
  pub loads : (kind : LoadKind) (rd addr : ℕ) → IsLoad image held (region_of image addr (load_width kind)) addr (load_width kind)
      → P (λ answer. set r rd (extended kind answer)) (want.Load (region_of image addr (load_width kind)) addr (load_width kind))
  pub stores : (put : Put) → IsPut image held put → P (λ answer. Next (at_next r) (Some put)) want.Nothing
  pub locks : (lock : ℕ) → CallsLock image r → IsLock image held lock → P (λ answer. Called (Lock lock) (answered r answer)) want.Nothing
  pub unlocks : (lock : ℕ) → IsUnlock image held lock → P (λ answer. Called (Unlock lock) (answered r 0)) want.Nothing
  pub sleeps : (blocks : ℕ) → blocks ≤ MAX_SLEEP → P (λ answer. Called (Sleep blocks) (answered r 0)) want.Nothing
  pub exits : P (λ answer. Called Exit r) want.Nothing

-- ---- what no fault says

load_opens : (held : ℕ → Bool) (place : Region) (addr width : ℕ) → load_fault held place addr width ≡ None → (addr % width ≡ 0) × IsOpen held place
load_opens held region.Text addr width e = (grind (arith, nat_tests), tt)
load_opens held region.Private addr width e = (grind (arith, nat_tests), tt)
load_opens held region.Stack addr width e = (grind (arith, nat_tests), tt)
load_opens held (region.Guard lock) addr width e = (grind (arith, nat_tests), grind (arith, nat_tests))
load_opens held region.Nothing addr width e = absurd (grind (arith, nat_tests))

store_opens : (held : ℕ → Bool) (place : Region) (addr width : ℕ) → store_fault held place addr width ≡ None → (addr % width ≡ 0) × IsOpenToStores held place
store_opens held region.Text addr width e = absurd (grind (arith, nat_tests))
store_opens held region.Private addr width e = (grind (arith, nat_tests), tt)
store_opens held region.Stack addr width e = (grind (arith, nat_tests), tt)
store_opens held (region.Guard lock) addr width e = (grind (arith, nat_tests), grind (arith, nat_tests))
store_opens held region.Nothing addr width e = absurd (grind (arith, nat_tests))

load_width_fits : (kind : LoadKind) → IsWidth (load_width kind)
load_width_fits load_kind.Lb = inl refl
load_width_fits load_kind.Lh = inr (inl refl)
load_width_fits load_kind.Lw = inr (inr refl)
load_width_fits load_kind.Lbu = inl refl
load_width_fits load_kind.Lhu = inr (inl refl)

-- of a store, the low bits of the value too
store_fits : (kind : StoreKind) (value : ℕ) → IsWidth (store_width kind) × (value % 2 ^ (8 * store_width kind) < 2 ^ (8 * store_width kind))
store_fits store_kind.Sb value = (inl refl, omega arith)
store_fits store_kind.Sh value = (inr (inl refl), omega arith)
store_fits store_kind.Sw value = (inr (inr refl), omega arith)

lock_opens : (image : Shown) (held : ℕ → Bool) (lock : ℕ) → lock_fault image held lock ≡ None → IsLock image held lock
lock_opens image held lock e =
    let above : is_above_held held lock ≡ true = grind (arith, nat_tests) in
    record { known = grind (arith, nat_tests); free = above_itself held lock above; above = λ other. above_all held lock other above }

unlock_opens : (image : Shown) (held : ℕ → Bool) (lock : ℕ) → unlock_fault image held lock ≡ None → IsUnlock image held lock
unlock_opens image held lock e = record { known = grind (arith, nat_tests); is_held = grind (arith, nat_tests) }

sleep_opens : (blocks : ℕ) → sleep_fault blocks ≡ None → blocks ≤ MAX_SLEEP
sleep_opens blocks e = grind (arith, nat_tests)

-- ---- the case of each instruction

choose : (P : (ℕ → Act) → Type 0) (b : Bool) (one other : ℕ → Act) → (b ≡ true → P one) → P other → P (λ answer. if b then one answer else other answer)
choose P true one other p q = p refl
choose P false one other p q = q

or_fault : (P : (ℕ → Act) → Want → Type 0) (f : Option Fault) (act : ℕ → Act) (wanted : Want)
    → ((g : Fault) → P (λ answer. Faulted g) want.Nothing) → (f ≡ None → P act wanted) → P (λ answer. faulted_or f (act answer)) (nothing_or f wanted)
or_fault P (Some f) act wanted faults goes = faults f
or_fault P None act wanted faults goes = goes refl

jump_case : (image : Shown) (held : ℕ → Bool) (r : Registers) (P : (ℕ → Act) → Want → Type 0) → Cases image held r P
    → (s : Registers) (target : ℕ) → (IsRegisters r → IsRegisters s) → P (λ answer. jump_to s target) want.Nothing
jump_case image held r P c s target kept =
    choose (λ act. P act want.Nothing) (target % 4 == 0) _ _ (λ is. c.goes (at_place s target) (λ k. at_kept s target (eqb-true (target % 4) 0 is) (kept k))) (c.faults fault.JumpTarget)

call_case : (image : Shown) (held : ℕ → Bool) (r : Registers) (P : (ℕ → Act) → Want → Type 0) → Cases image held r P
    → instruction_at image r.pc ≡ Ok Ecall → P (λ answer. guest_call image held r answer) want.Nothing
unfolding guest_call
call_case image held r P c at =
    let x = get r 10 in
    let Q : (ℕ → Act) → Type 0 = λ act. P act want.Nothing in
    choose Q (get r 17 == 1) _ _ (λ is. or_fault (λ act w. Q act) (lock_fault image held x) _ want.Nothing c.faults (λ e. c.locks x record { ecall = at; number = eqb-true (get r 17) 1 is } (lock_opens image held x e)))
    (choose Q (get r 17 == 2) _ _ (λ is. or_fault (λ act w. Q act) (unlock_fault image held x) _ want.Nothing c.faults (λ e. c.unlocks x (unlock_opens image held x e)))
    (choose Q (get r 17 == 3) _ _ (λ is. or_fault (λ act w. Q act) (sleep_fault x) _ want.Nothing c.faults (λ e. c.sleeps x (sleep_opens x e)))
    (choose Q (get r 17 == 93) _ _ (λ is. c.exits) (c.faults fault.BadCall))))

case_by : (image : Shown) (held : ℕ → Bool) (r : Registers) (P : (ℕ → Act) → Want → Type 0) → Cases image held r P
    → (instr : Instr) → instruction_at image r.pc ≡ Ok instr → P (λ answer. act_by image held r answer instr) (wants_by image held r instr)
unfolding act_by wants_by load load_want store
case_by image held r P c (Lui rd imm) at = c.goes _ (set_kept r rd imm)
case_by image held r P c (Auipc rd imm) at = c.goes _ (set_kept r rd (plus r.pc imm))
case_by image held r P c (Jal rd off) at = jump_case image held r P c _ (plus r.pc off) (with_kept r rd (plus r.pc 4))
case_by image held r P c (Jalr rd rs1 off) at = jump_case image held r P c _ (plus (get r rs1) off / 2 * 2) (with_kept r rd (plus r.pc 4))
case_by image held r P c (Branch k rs1 rs2 off) at =
    choose (λ act. P act want.Nothing) (is_taken k (get r rs1) (get r rs2)) _ _ (λ is. jump_case image held r P c r (plus r.pc off) (λ kept. kept)) (c.goes _ (at_next_kept r))
case_by image held r P c (Load kind rd rs1 off) at =
    let addr = plus (get r rs1) off in
    or_fault P (load_fault held (region_of image addr (load_width kind)) addr (load_width kind)) (λ answer. set r rd (extended kind answer)) _ c.faults (λ e.
    (let o = load_opens held _ addr (load_width kind) e in
    c.loads kind rd addr record { width_fits = load_width_fits kind; aligned = o.0; lies = refl; is_open = o.1 }))
case_by image held r P c (Store kind rs1 rs2 off) at =
    let addr = plus (get r rs1) off in
    let put = put_at (region_of image addr (store_width kind)) addr (store_width kind) (get r rs2) in
    or_fault (λ act w. P act want.Nothing) (store_fault held put.region addr put.width) (λ answer. Next (at_next r) (Some put)) want.Nothing c.faults (λ e.
    (let o = store_opens held put.region addr put.width e in
    let fits = store_fits kind (get r rs2) in
    c.stores put record { width_fits = fits.0; aligned = o.0; lies = refl; is_open = o.1; value_fits = fits.1 }))
case_by image held r P c (Imm o rd rs1 imm) at = c.goes _ (set_kept r rd (value_of (op_of_imm o) (get r rs1) imm))
case_by image held r P c (Op o rd rs1 rs2) at = c.goes _ (set_kept r rd (value_of o (get r rs1) (get r rs2)))
case_by image held r P c (Fence rd rs1 imm) at = c.goes _ (at_next_kept r)
case_by image held r P c Ecall at = call_case image held r P c at
case_by image held r P c Ebreak at = c.faults fault.Break

pub each : (image : Shown) (held : ℕ → Bool) (r : Registers) (P : (ℕ → Act) → Want → Type 0) → Cases image held r P → P (act_of image held r) (wants_of image held r)
unfolding act_of wants_of
each image held r P c = (elim (instruction_at image r.pc) as (λ i. instruction_at image r.pc ≡ i → P (λ answer. act_from image held r answer i) (wants_from image held r i)) [
  | Ok instr ↦ λ at. case_by image held r P c instr at
  | Err f ↦ λ at. c.faults f
]) refl

-- ---- what is true of it

pub wants_told : (image : Shown) (held : ℕ → Bool) (r : Registers) → IsWant image held (wants_of image held r)
wants_told image held r = each image held r (λ act wanted. IsWant image held wanted) record {
  goes = λ next kept. tt;
  faults = λ f. tt;
  loads = λ kind rd addr told. told;
  stores = λ put told. tt;
  locks = λ lock calls told. tt;
  unlocks = λ lock told. tt;
  sleeps = λ blocks few. tt;
  exits = tt;
}

pub act_told : (image : Shown) (held : ℕ → Bool) (r : Registers) (answer : ℕ) → IsAct image held r (act_of image held r answer)
act_told image held r answer = each image held r (λ act wanted. IsAct image held r (act answer)) record {
  goes = λ next kept. tt;
  faults = λ f. tt;
  loads = λ kind rd addr told. tt;
  stores = λ put told. told;
  locks = λ lock calls told. told;
  unlocks = λ lock told. (told, refl);
  sleeps = λ blocks few. (few, refl);
  exits = refl;
}
