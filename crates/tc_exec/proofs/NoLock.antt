-- Only an ECALL with the number of LOCK in x17 is a LOCK.
use Rattle.std.proofs.Common.{◌≡◌, ℕ, Bool, false, refl, sym, ap, ◌∙◌}
use Rattle.std.specs.Prelude.{Option, Some, None, Ok, ◌==◌}
use Rattle.std.specs.Option.{ok_or}
use Rattle.tc_isa.specs.Registers.{Registers, get}
use Rattle.tc_isa.specs.Reading.{decoded}
use Rattle.tc_isa.specs.declared.fault.Fault.{Fault}
use Rattle.tc_isa.specs.declared.fault.Fault.TheVariants as fault
use Rattle.tc_isa.specs.declared.instr.Instr.{Instr}
use Rattle.tc_isa.specs.declared.instr.Instr.TheVariants.{Ecall}
use Rattle.tc_elf.specs.Shown.{Shown}
use Rattle.tc_elf.specs.Places.{fetched}
use Rattle.tc_exec.proofs.Cases.{each}
use Rattle.tc_exec.specs.Flow.{faulted_or}
use Rattle.tc_exec.specs.Calls.{lock_fault, answered, guest_call}
use Rattle.tc_exec.specs.Step.{decoded_from, instruction_at, act_by, act_of}
use Rattle.tc_exec.specs.Told.{IsNoLock, taken_by}
use Rattle.tc_exec.specs.Statements.{NeverLocks, CallsLock}
use Rattle.tc_exec.specs.declared.outcome.Act.{Act}
use Rattle.tc_exec.specs.declared.outcome.Act.TheVariants.{Next, Called, Faulted}
use Rattle.tc_exec.specs.declared.outcome.Call.TheVariants.{Lock, Unlock, Sleep, Exit}

-- whatever is no ECALL with the number of LOCK is no LOCK
pub never : (image : Shown) (r : Registers) → (CallsLock image r → ⊥) → NeverLocks image r
never image r other held answer = each image held r (λ act wanted. IsNoLock (act answer)) record {
  goes = λ next kept. tt;
  faults = λ f. tt;
  loads = λ kind rd addr told. tt;
  stores = λ put told. tt;
  locks = λ lock calls told. absurd (other calls);
  unlocks = λ lock told. tt;
  sleeps = λ blocks few. tt;
  exits = tt;
}

-- another number in x17
pub other_number : (image : Shown) (held : ℕ → Bool) (r : Registers) (answer : ℕ) → (get r 17 == 1) ≡ false → IsNoLock (act_of image held r answer)
other_number image held r answer other = never image r (λ calls. (let no = rw calls.number at other in cc)) held answer

-- another instruction
pub other_instr : (image : Shown) (r : Registers) (instr : Instr) → instruction_at image r.pc ≡ Ok instr → (instr ≡ Ecall → ⊥) → NeverLocks image r
other_instr image r instr at other = never image r (λ calls. (let ecall = calls.ecall in other (cc)))

decodes : (o : Option Instr) → ok_or o fault.Illegal ≡ Ok Ecall → o ≡ Some Ecall
decodes (Some instr) e = cc
decodes None e = absurd (cc)

-- another word
pub other_word : (image : Shown) (held : ℕ → Bool) (r : Registers) (answer word : ℕ) → fetched image r.pc ≡ Some word → (decoded word ≡ Some Ecall → ⊥) → IsNoLock (act_of image held r answer)
unfolding instruction_at
other_word image held r answer word at other = never image r (λ calls. other (decodes (decoded word) (sym (ap decoded_from at) ∙ calls.ecall))) held answer

-- no word
pub no_word : (image : Shown) (held : ℕ → Bool) (r : Registers) (answer : ℕ) → fetched image r.pc ≡ None → IsNoLock (act_of image held r answer)
unfolding instruction_at
no_word image held r answer at = never image r (λ calls. (let no = sym (ap decoded_from at) ∙ calls.ecall in cc)) held answer

-- the word of ECALL, with the number of LOCK
pub calls : (image : Shown) (r : Registers) (word : ℕ) → get r 17 ≡ 1 → fetched image r.pc ≡ Some word → decoded word ≡ Some Ecall → CallsLock image r
unfolding instruction_at
calls image r word number at decodes = record { ecall = ap decoded_from at ∙ ap (λ o. ok_or o fault.Illegal) decodes; number = number }

-- ---- the lock that an act takes

none_taken : (a : Act) → IsNoLock a → taken_by a ≡ None
none_taken (Next next put) h = refl
none_taken (Called (Lock lock) next) h = absurd h
none_taken (Called (Unlock lock) next) h = refl
none_taken (Called (Sleep blocks) next) h = refl
none_taken (Called Exit next) h = refl
none_taken (Faulted f) h = refl

pub taken_none : (image : Shown) (held : ℕ → Bool) (r : Registers) → NeverLocks image r → (answer : ℕ) → None ≡ taken_by (act_of image held r answer)
taken_none image held r never answer = sym (none_taken (act_of image held r answer) (never held answer))

-- an ECALL with the number of LOCK is a LOCK, or its fault
calls_lock : (image : Shown) (held : ℕ → Bool) (r : Registers) → CallsLock image r → (answer : ℕ)
    → act_of image held r answer ≡ faulted_or (lock_fault image held (get r 10)) (Called (Lock (get r 10)) (answered r answer))
unfolding act_of act_by guest_call
calls_lock image held r calls answer = rw (calls.ecall, calls.number) refl

pub taken_some : (image : Shown) (held : ℕ → Bool) (r : Registers) (f : Option Fault) → CallsLock image r → lock_fault image held (get r 10) ≡ f → (answer : ℕ)
    → taken_by (act_of image held r answer) ≡ (elim f as (λ f. Option ℕ) [ Some g ↦ None | None ↦ Some (get r 10) ])
taken_some image held r f calls is answer =
    ap taken_by (calls_lock image held r calls answer)
    ∙ ap (λ f. taken_by (faulted_or f (Called (Lock (get r 10)) (answered r answer)))) is
    ∙ by f
  where
    by : (f : Option Fault) → taken_by (faulted_or f (Called (Lock (get r 10)) (answered r answer))) ≡ (elim f as (λ f. Option ℕ) [ Some g ↦ None | None ↦ Some (get r 10) ])
    by (Some g) = refl
    by None = refl
