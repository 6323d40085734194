-- What the layers above need to know of instructions, and all that they need to know.
use Rattle.std.proofs.Common.{◌≡◌, ℕ, Bool, refl, ap, arith, subst}
use Rattle.tc_isa.specs.Registers.{Registers}
use Rattle.tc_elf.specs.Shown.{Shown}
use Rattle.tc_exec.proofs.Cases.{each, wants_told, act_told}
use Rattle.tc_exec.proofs.Kept.{at_next_kept, set_kept}
use Rattle.tc_exec.specs.Access.{extended}
use Rattle.tc_exec.specs.Calls.{answered}
use Rattle.tc_exec.specs.Step.{wants_of, act_of}
use Rattle.tc_exec.specs.Statements.{GuardIsHeld, PutIsHeld, UnlockIsHeld, LockIsFree, LockWantsNothing, LockIsAbove, AnswerIsUnread, RegistersAreKept}
use Rattle.tc_exec.specs.Told.{IsOpenToStores, IsPut, IsLock, IsWant, IsAct, KeepsRegisters}
use Rattle.tc_exec.specs.declared.outcome.Act.TheVariants.{Called}
use Rattle.tc_exec.specs.declared.outcome.Call.TheVariants.{Lock}
use Rattle.tc_exec.specs.declared.outcome.Want.TheVariants as want

pub guard_is_held : GuardIsHeld
guard_is_held image held r lock addr width e = (subst (λ w. IsWant image held w) e (wants_told image held r)).is_open

pub put_is_held : PutIsHeld
put_is_held image held r answer next put lock e lies =
    let told : IsPut image held put = subst (λ a. IsAct image held r a) e (act_told image held r answer) in
    subst (λ place. IsOpenToStores held place) lies told.is_open

pub unlock_is_held : UnlockIsHeld
unlock_is_held image held r answer next lock e = (subst (λ a. IsAct image held r a) e (act_told image held r answer)).0.is_held

lock_told : (image : Shown) (held : ℕ → Bool) (r : Registers) (answer : ℕ) (next : Registers) (lock : ℕ) → act_of image held r answer ≡ Called (Lock lock) next → IsLock image held lock
lock_told image held r answer next lock e = subst (λ a. IsAct image held r a) e (act_told image held r answer)

pub lock_is_above : LockIsAbove
lock_is_above image held r answer next lock few bound e =
    let told = lock_told image held r answer next lock e in
    let known = told.known in
    (omega arith, λ other is. told.above other (bound other is) is)

-- ---- what the answer changes

-- an instruction that is a LOCK is one at every answer, and loads nothing
lock_anyway : (image : Shown) (held : ℕ → Bool) (r : Registers) (answer : ℕ) (next : Registers) (lock : ℕ) → act_of image held r answer ≡ Called (Lock lock) next
    → ((other : ℕ) → act_of image held r other ≡ Called (Lock lock) (answered r other)) × (wants_of image held r ≡ want.Nothing)
lock_anyway image held r answer next lock = each image held r (λ act wanted. act answer ≡ Called (Lock lock) next
    → ((other : ℕ) → act other ≡ Called (Lock lock) (answered r other)) × (wanted ≡ want.Nothing)) record {
      goes = λ next kept e. absurd (cc);
      faults = λ f e. absurd (cc);
      loads = λ kind rd addr told e. absurd (cc);
      stores = λ put told e. absurd (cc);
      locks = λ taken calls told e. (λ other. (let same : taken ≡ lock = cc in ap (λ k. Called (Lock k) (answered r other)) same), refl);
      unlocks = λ lock told e. absurd (cc);
      sleeps = λ blocks few e. absurd (cc);
      exits = λ e. absurd (cc);
    }

pub lock_is_free : LockIsFree
lock_is_free image held r answer next lock e =
    let told = lock_told image held r answer next lock e in
    record { known = told.known; free = told.free; anyway = (lock_anyway image held r answer next lock e).0 }

pub lock_wants_nothing : LockWantsNothing
lock_wants_nothing image held r answer next lock e = (lock_anyway image held r answer next lock e).1

pub answer_is_unread : AnswerIsUnread
answer_is_unread image held r one other = each image held r (λ act wanted. wanted ≡ want.Nothing
    → ((next : Registers) (lock : ℕ) → act one ≡ Called (Lock lock) next → ⊥) → act one ≡ act other) record {
      goes = λ next kept w never. refl;
      faults = λ f w never. refl;
      loads = λ kind rd addr told w never. absurd (cc);
      stores = λ put told w never. refl;
      locks = λ lock calls told w never. absurd (never _ lock refl);
      unlocks = λ lock told w never. refl;
      sleeps = λ blocks few w never. refl;
      exits = λ w never. refl;
    }

pub registers_are_kept : RegistersAreKept
registers_are_kept image held r answer before = each image held r (λ act wanted. KeepsRegisters (act answer)) record {
  goes = λ next kept. kept before;
  faults = λ f. tt;
  loads = λ kind rd addr told. set_kept r rd (extended kind answer) before;
  stores = λ put told. at_next_kept r before;
  locks = λ lock calls told. set_kept r 10 answer before;
  unlocks = λ lock told. set_kept r 10 0 before;
  sleeps = λ blocks few. set_kept r 10 0 before;
  exits = before;
}
