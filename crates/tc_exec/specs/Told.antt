-- What is true of every load, store and guest call of an instruction.
use Rattle.std.specs.Prelude.{◌≡◌, ◌⊎◌, ℕ, ◌*◌, ◌%◌, ◌^◌, ◌<◌, ◌≤◌, Bool, true, false, length, Option, Some, None}
use Rattle.tc_isa.specs.Registers.{Registers, IsRegisters}
use Rattle.tc_isa.specs.declared.limits.TheConstants.{MAX_SLEEP}
use Rattle.tc_elf.specs.Shown.{Shown}
use Rattle.tc_elf.specs.Places.{region_of}
use Rattle.tc_elf.specs.declared.image.Region.{Region}
use Rattle.tc_elf.specs.declared.image.Region.TheVariants as region
use Rattle.tc_exec.specs.Calls.{answered}
use Rattle.tc_exec.specs.declared.outcome.Act.{Act}
use Rattle.tc_exec.specs.declared.outcome.Act.TheVariants.{Next, Called, Faulted}
use Rattle.tc_exec.specs.declared.outcome.Call.TheVariants.{Lock, Unlock, Sleep, Exit}
use Rattle.tc_exec.specs.declared.outcome.Put.{Put}
use Rattle.tc_exec.specs.declared.outcome.Want.{Want}
use Rattle.tc_exec.specs.declared.outcome.Want.TheVariants as want

abbrev pub IsWidth : ℕ → Type 0
IsWidth width = (width ≡ 1) ⊎ (width ≡ 2) ⊎ (width ≡ 4)

-- where a thread may load: in a guard whose lock it holds, and in each place that is no guard
abbrev pub IsOpen : (ℕ → Bool) → Region → Type 0
IsOpen held (region.Guard lock) = held lock ≡ true
IsOpen held region.Nothing = ⊥
IsOpen held place = Unit {0}

-- where it may store
abbrev pub IsOpenToStores : (ℕ → Bool) → Region → Type 0
IsOpenToStores held region.Text = ⊥
IsOpenToStores held place = IsOpen held place

pub record IsLoad (image : Shown) (held : ℕ → Bool) (place : Region) (addr width : ℕ) : Type 0 where
  pub width_fits : IsWidth width
  pub aligned : addr % width ≡ 0
  pub lies : place ≡ region_of image addr width
  pub is_open : IsOpen held place

pub record IsPut (image : Shown) (held : ℕ → Bool) (put : Put) : Type 0 where
  pub width_fits : IsWidth put.width
  pub aligned : put.addr % put.width ≡ 0
  pub lies : put.region ≡ region_of image put.addr put.width
  pub is_open : IsOpenToStores held put.region
  pub value_fits : put.value < 2 ^ (8 * put.width)

-- a LOCK is of a lock of the image that isn't held and is greater than each that is
pub record IsLock (image : Shown) (held : ℕ → Bool) (lock : ℕ) : Type 0 where
  pub known : lock < length image.guards
  pub free : held lock ≡ false
  pub above : (other : ℕ) → other < 32 → held other ≡ true → other < lock

pub record IsUnlock (image : Shown) (held : ℕ → Bool) (lock : ℕ) : Type 0 where
  pub known : lock < length image.guards
  pub is_held : held lock ≡ true

abbrev pub IsWant : Shown → (ℕ → Bool) → Want → Type 0
IsWant image held want.Nothing = Unit {0}
IsWant image held (want.Load place addr width) = IsLoad image held place addr width

-- of an act from these registers
abbrev pub IsAct : Shown → (ℕ → Bool) → Registers → Act → Type 0
IsAct image held r (Next next None) = Unit {0}
IsAct image held r (Next next (Some put)) = IsPut image held put
IsAct image held r (Called (Lock lock) next) = IsLock image held lock
IsAct image held r (Called (Unlock lock) next) = IsUnlock image held lock × (next ≡ answered r 0)
IsAct image held r (Called (Sleep blocks) next) = (blocks ≤ MAX_SLEEP) × (next ≡ answered r 0)
IsAct image held r (Called Exit next) = next ≡ r
IsAct image held r (Faulted f) = Unit {0}

-- the lock that an act takes, where it is a LOCK
abbrev pub taken_by : Act → Option ℕ
taken_by (Next next put) = None
taken_by (Called (Lock lock) next) = Some lock
taken_by (Called (Unlock lock) next) = None
taken_by (Called (Sleep blocks) next) = None
taken_by (Called Exit next) = None
taken_by (Faulted f) = None

-- an act that is no LOCK
abbrev pub IsNoLock : Act → Type 0
IsNoLock (Called (Lock lock) next) = ⊥
IsNoLock act = Unit {0}

-- the registers that an act leaves are registers
abbrev pub KeepsRegisters : Act → Type 0
KeepsRegisters (Next next put) = IsRegisters next
KeepsRegisters (Called call next) = IsRegisters next
KeepsRegisters (Faulted f) = Unit {0}
