-- The program counter of a thread is a number of 32 bits.
use Rattle.std.proofs.Common.{◌≡◌, ℕ, zero, suc, ◌%◌, ◌*◌, ◌/◌, ◌^◌, ◌<◌, Bool, true, false, ◌==◌, length, refl, sym, subst, arith, inl, inr}
use Rattle.std.specs.Prelude.{Option, Some, None, Result, Ok, Err, nat_lt, if◌then◌else◌}
use Rattle.std.proofs.lemmas.Bool.Decides.{eqb_tells}
use Rattle.tc_isa.specs.Registers.{Registers, get, with_register}
use Rattle.tc_isa.specs.declared.fault.Fault.{Fault}
use Rattle.tc_isa.specs.declared.fault.Fault.TheVariants as fault
use Rattle.tc_isa.specs.declared.instr.StoreKind.{StoreKind}
use Rattle.tc_isa.specs.declared.instr.Instr.{Instr}
use Rattle.tc_isa.specs.declared.instr.Instr.TheVariants.{Lui, Auipc, Jal, Jalr, Branch, Load, Store, Imm, Op, Fence, Ecall, Ebreak}
use Rattle.tc_elf.specs.Shown.{Shown, entry_at}
use Rattle.tc_elf.specs.Places.{region_of}
use Rattle.tc_exec.specs.Arithmetic.{plus, is_taken}
use Rattle.tc_exec.specs.Access.{load, fault_of_load, extended, store, store_fault, store_width, put_at}
use Rattle.tc_exec.specs.Calls.{lock_fault, unlock_fault, sleep_fault, guest_call}
use Rattle.tc_exec.specs.Flow.{at_place, at_next, jump_to, faulted_or}
use Rattle.tc_exec.specs.Step.{instruction_at, act_by, act_from, act_of}
use Rattle.tc_exec.specs.declared.outcome.Act.{Act}
use Rattle.tc_exec.specs.declared.outcome.Act.TheVariants.{Next, Called, Faulted}
use Rattle.tc_exec.specs.declared.outcome.Call.{Call}
use Rattle.tc_exec.specs.declared.outcome.Call.TheVariants.{Lock, Unlock, Sleep, Exit}
use Rattle.tc_turn.specs.Turn.{Thread, Mutex, thread_at_start, no_thread, answer_of, act_with, next_act, thread_after}
use Rattle.tc_turn.proofs.Turns.{act_some}
use Rattle.tc_mutex_spec.specs.Machine.{State, start, after}
use Rattle.tc_mutex_spec.specs.Blocks.{reach}
use Rattle.tc_mutex_spec.proofs.Local.{after_thread, turn_apart}
use Rattle.tc_mutex_spec.proofs.BlocksAlike.{covers_block}

-- where the act goes on is such a number
abbrev IsPlaced : Act → Type 0
IsPlaced (Next regs put) = regs.pc < 2 ^ 32
IsPlaced (Called call regs) = regs.pc < 2 ^ 32
IsPlaced (Faulted f) = Unit {0}

next_placed : (r : Registers) → (at_next r).pc < 2 ^ 32
next_placed r = omega arith

or_placed : (f : Option Fault) (a : Act) → IsPlaced a → IsPlaced (faulted_or f a)
or_placed (Some f) a p = tt
or_placed None a p = p

jump_placed : (r : Registers) (target : ℕ) → target < 2 ^ 32 → IsPlaced (jump_to r target)
jump_placed r target small = elim (target % 4 == 0) as (λ b. IsPlaced (if b then Next (at_place r target) None else Faulted fault.JumpTarget)) [ true ↦ small | false ↦ tt ]

branch_placed : (r s : Registers) (b : Bool) (target : ℕ) → target < 2 ^ 32 → IsPlaced (if b then jump_to r target else Next (at_next s) None)
branch_placed r s true target small = jump_placed r target small
branch_placed r s false target small = next_placed s

choice_placed : (b : Bool) (a c : Act) → IsPlaced a → IsPlaced c → IsPlaced (if b then a else c)
choice_placed true a c p q = p
choice_placed false a c p q = q

call_placed : (image : Shown) (held : ℕ → Bool) (r : Registers) (answer : ℕ) → r.pc < 2 ^ 32 → IsPlaced (guest_call image held r answer)
unfolding guest_call
call_placed image held r answer small =
    choice_placed (get r 17 == 1) _ _ (or_placed (lock_fault image held (get r 10)) _ (next_placed (with_register r 10 answer)))
    (choice_placed (get r 17 == 2) _ _ (or_placed (unlock_fault image held (get r 10)) _ (next_placed (with_register r 10 0)))
    (choice_placed (get r 17 == 3) _ _ (or_placed (sleep_fault (get r 10)) _ (next_placed (with_register r 10 0)))
    (choice_placed (get r 17 == 93) _ _ small tt)))

store_placed : (image : Shown) (held : ℕ → Bool) (r : Registers) (kind : StoreKind) (addr value : ℕ) → IsPlaced (store image held r kind addr value)
unfolding store
store_placed image held r kind addr value =
    let width = store_width kind in let place = region_of image addr width in
    or_placed (store_fault held place addr width) (Next (at_next r) (Some (put_at place addr width value))) (next_placed r)

instr_placed : (image : Shown) (held : ℕ → Bool) (r : Registers) (answer : ℕ) (i : Instr) → r.pc < 2 ^ 32 → IsPlaced (act_by image held r answer i)
unfolding act_by load
instr_placed image held r answer (Lui rd imm) small = next_placed (with_register r rd imm)
instr_placed image held r answer (Auipc rd imm) small = next_placed (with_register r rd (plus r.pc imm))
instr_placed image held r answer (Jal rd off) small = jump_placed (with_register r rd (plus r.pc 4)) (plus r.pc off) (omega arith)
instr_placed image held r answer (Jalr rd rs1 off) small = jump_placed (with_register r rd (plus r.pc 4)) (plus (get r rs1) off / 2 * 2) (omega arith)
instr_placed image held r answer (Branch k rs1 rs2 off) small = branch_placed r r (is_taken k (get r rs1) (get r rs2)) (plus r.pc off) (omega arith)
instr_placed image held r answer (Load kind rd rs1 off) small = or_placed (fault_of_load image held kind (plus (get r rs1) off)) _ (next_placed (with_register r rd (extended kind answer)))
instr_placed image held r answer (Store kind rs1 rs2 off) small = store_placed image held r kind (plus (get r rs1) off) (get r rs2)
instr_placed image held r answer (Imm o rd rs1 imm) small = next_placed (with_register r rd _)
instr_placed image held r answer (Op o rd rs1 rs2) small = next_placed (with_register r rd _)
instr_placed image held r answer (Fence rd rs1 imm) small = next_placed r
instr_placed image held r answer Ecall small = call_placed image held r answer small
instr_placed image held r answer Ebreak small = tt

act_placed : (image : Shown) (held : ℕ → Bool) (r : Registers) (answer : ℕ) → r.pc < 2 ^ 32 → IsPlaced (act_of image held r answer)
unfolding act_of
act_placed image held r answer small = go (instruction_at image r.pc)
  where
    go : (i : Result Instr Fault) → IsPlaced (act_from image held r answer i)
    go (Ok instr) = instr_placed image held r answer instr small
    go (Err f) = tt

-- ---- after a turn

thread_placed : (d : Thread) (a : Option Act) → d.regs.pc < 2 ^ 32 → ((x : Act) → a ≡ Some x → IsPlaced x) → (thread_after d a).regs.pc < 2 ^ 32
thread_placed d None small placed = small
thread_placed d (Some (Next regs put)) small placed = placed (Next regs put) refl
thread_placed d (Some (Called call regs)) small placed = by_call call (placed (Called call regs) refl)
  where
    by_call : (x : Call) → regs.pc < 2 ^ 32 → (thread_after d (Some (Called x regs))).regs.pc < 2 ^ 32
    by_call (Lock lock) p = p
    by_call (Unlock lock) p = p
    by_call (Sleep blocks) p = p
    by_call Exit p = p
thread_placed d (Some (Faulted f)) small placed = small

turn_placed : (image : Shown) (d : Thread) (locks : ℕ → Mutex) → d.regs.pc < 2 ^ 32 → (thread_after d (next_act image d locks)).regs.pc < 2 ^ 32
unfolding next_act
turn_placed image d locks small =
    let answer = answer_of image d locks in
    thread_placed d (act_with image d answer) small (λ x e. subst IsPlaced (act_some image d answer x e) (act_placed image d.held d.regs answer small))

abbrev pub ArePlaced : State → Type 0
ArePlaced m = (t : ℕ) → (m.threads t).regs.pc < 2 ^ 32

pub placed_after : (image : Shown) (m : State) (u : ℕ) → ArePlaced m → ArePlaced (after image m u)
placed_after image m u all t = elim (eqb_tells t u) [
  | inl e ↦ subst (λ v. ((after image m u).threads v).regs.pc < 2 ^ 32) (sym e.1) (subst (λ (d : Thread). d.regs.pc < 2 ^ 32) (sym (after_thread image m u)) (turn_placed image (m.threads u) m.locks (all u)))
  | inr e ↦ subst (λ (d : Thread). d.regs.pc < 2 ^ 32) (sym ((turn_apart image m u _ (covers_block image (m.threads u))).threads t e.1)) (all t)
]

pub placed_reach : (image : Shown) (m : State) (u n : ℕ) → ArePlaced m → ArePlaced (reach image m u n)
placed_reach image m u zero all = all
placed_reach image m u (suc n) all = placed_after image (reach image m u n) u (placed_reach image m u n all)

pub placed_start : (image : Shown) (fuel : ℕ) → ((t : ℕ) → (entry_at image t).address < 2 ^ 32) → ArePlaced (start image fuel)
placed_start image fuel entries t = (elim (nat_lt t (length image.entries)) as (λ b. (if b then thread_at_start image fuel t else no_thread).regs.pc < 2 ^ 32) [ true ↦ entries t | false ↦ omega arith ])
