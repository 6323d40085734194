-- The laws of one instruction: all that the layers above need to know of instructions.
use Rattle.std.specs.Prelude.{◌≡◌, ℕ, ◌<◌, ◌≤◌, Bool, true, false, length, Some, Ok}
use Rattle.tc_isa.specs.Registers.{Registers, IsRegisters, get}
use Rattle.tc_isa.specs.declared.instr.Instr.TheVariants.{Ecall}
use Rattle.tc_elf.specs.Shown.{Shown}
use Rattle.tc_elf.specs.declared.image.Region.TheVariants as region
use Rattle.tc_exec.specs.Calls.{answered}
use Rattle.tc_exec.specs.Step.{instruction_at, wants_of, act_of}
use Rattle.tc_exec.specs.Told.{IsNoLock, KeepsRegisters}
use Rattle.tc_exec.specs.declared.outcome.Act.TheVariants.{Next, Called}
use Rattle.tc_exec.specs.declared.outcome.Call.TheVariants.{Lock, Unlock}
use Rattle.tc_exec.specs.declared.outcome.Put.{Put}
use Rattle.tc_exec.specs.declared.outcome.Want.TheVariants as want

-- a load in a guard is one whose lock is held
abbrev pub GuardIsHeld : Type 0
GuardIsHeld = (image : Shown) (held : ℕ → Bool) (r : Registers) (lock addr width : ℕ)
    → wants_of image held r ≡ want.Load (region.Guard lock) addr width → held lock ≡ true

-- a store in a guard is one whose lock is held
abbrev pub PutIsHeld : Type 0
PutIsHeld = (image : Shown) (held : ℕ → Bool) (r : Registers) (answer : ℕ) (next : Registers) (put : Put) (lock : ℕ)
    → act_of image held r answer ≡ Next next (Some put) → put.region ≡ region.Guard lock → held lock ≡ true

-- an UNLOCK is of a lock that is held
abbrev pub UnlockIsHeld : Type 0
UnlockIsHeld = (image : Shown) (held : ℕ → Bool) (r : Registers) (answer : ℕ) (next : Registers) (lock : ℕ)
    → act_of image held r answer ≡ Called (Unlock lock) next → held lock ≡ true

-- a LOCK is of a lock of the image that isn't held, and is one of the same lock at every answer
pub record IsLockAnyway (image : Shown) (held : ℕ → Bool) (r : Registers) (lock : ℕ) : Type 0 where
  pub known : lock < length image.guards
  pub free : held lock ≡ false
  pub anyway : (answer : ℕ) → act_of image held r answer ≡ Called (Lock lock) (answered r answer)

abbrev pub LockIsFree : Type 0
LockIsFree = (image : Shown) (held : ℕ → Bool) (r : Registers) (answer : ℕ) (next : Registers) (lock : ℕ)
    → act_of image held r answer ≡ Called (Lock lock) next → IsLockAnyway image held r lock

-- whatever locks are held and whatever is answered, the next instruction is no LOCK
abbrev pub NeverLocks : Shown → Registers → Type 0
NeverLocks image r = (held : ℕ → Bool) (answer : ℕ) → IsNoLock (act_of image held r answer)

-- the next instruction is ECALL, with the number of LOCK
pub record CallsLock (image : Shown) (r : Registers) : Type 0 where
  pub ecall : instruction_at image r.pc ≡ Ok Ecall
  pub number : get r 17 ≡ 1

-- a LOCK loads nothing
abbrev pub LockWantsNothing : Type 0
LockWantsNothing = (image : Shown) (held : ℕ → Bool) (r : Registers) (answer : ℕ) (next : Registers) (lock : ℕ)
    → act_of image held r answer ≡ Called (Lock lock) next → wants_of image held r ≡ want.Nothing

-- a LOCK is of a lock below 32 and above all that are held
abbrev pub LockIsAbove : Type 0
LockIsAbove = (image : Shown) (held : ℕ → Bool) (r : Registers) (answer : ℕ) (next : Registers) (lock : ℕ)
    → length image.guards ≤ 32 → ((other : ℕ) → held other ≡ true → other < 32)
    → act_of image held r answer ≡ Called (Lock lock) next → (lock < 32) × ((other : ℕ) → held other ≡ true → other < lock)

-- only a load and a LOCK look at the answer
abbrev pub AnswerIsUnread : Type 0
AnswerIsUnread = (image : Shown) (held : ℕ → Bool) (r : Registers) (one other : ℕ)
    → wants_of image held r ≡ want.Nothing → ((next : Registers) (lock : ℕ) → act_of image held r one ≡ Called (Lock lock) next → ⊥)
    → act_of image held r one ≡ act_of image held r other

-- registers stay registers
abbrev pub RegistersAreKept : Type 0
RegistersAreKept = (image : Shown) (held : ℕ → Bool) (r : Registers) (answer : ℕ) → IsRegisters r → KeepsRegisters (act_of image held r answer)
