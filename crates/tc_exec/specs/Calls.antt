-- Guest calls: what ECALL does, by the number in x17.
use Rattle.std.specs.Prelude.{ℕ, ◌==◌, nat_lt, nat_le, not, if◌then◌else◌, Bool, length, filter, Option, Some, None}
use Rattle.std.specs.List.{list_any, range_with_len}
use Rattle.tc_isa.specs.Registers.{Registers, get, with_register}
use Rattle.tc_isa.specs.declared.limits.TheConstants.{MAX_HELD, MAX_SLEEP}
use Rattle.tc_isa.specs.declared.fault.Fault.{Fault}
use Rattle.tc_isa.specs.declared.fault.Fault.TheVariants as fault
use Rattle.tc_elf.specs.Shown.{Shown}
use Rattle.tc_exec.specs.Flow.{at_next, faulted_or}
use Rattle.tc_exec.specs.declared.outcome.Act.{Act}
use Rattle.tc_exec.specs.declared.outcome.Act.TheVariants.{Called, Faulted}
use Rattle.tc_exec.specs.declared.outcome.Call.TheVariants.{Lock, Unlock, Sleep, Exit}

-- there are as many locks as guards
abbrev pub has_lock : Shown → ℕ → Bool
has_lock image lock = nat_lt lock (length image.guards)

-- the thread holds as many locks, of which each is below 32, as it may
unfoldable pub holds_most : (ℕ → Bool) → Bool
holds_most held = nat_le MAX_HELD (length (filter held (range_with_len 0 32)))

-- none from this lock on is held: so it is greater than each that is
unfoldable pub is_above_held : (ℕ → Bool) → ℕ → Bool
is_above_held held lock = not (list_any held (range_with_len lock 32))

-- a thread takes locks in ascending order
abbrev pub lock_fault : Shown → (ℕ → Bool) → ℕ → Option Fault
lock_fault image held lock =
    if not (has_lock image lock) then Some fault.BadLock
    else if holds_most held then Some fault.BadLock
    else if is_above_held held lock then None
    else Some fault.LockOrder

abbrev pub unlock_fault : Shown → (ℕ → Bool) → ℕ → Option Fault
unlock_fault image held lock =
    if not (has_lock image lock) then Some fault.BadLock
    else if held lock then None
    else Some fault.NotHeld

abbrev pub sleep_fault : ℕ → Option Fault
sleep_fault blocks = if nat_lt MAX_SLEEP blocks then Some fault.BadCall else None

-- a call comes back behind the ECALL with its answer in x10
abbrev pub answered : Registers → ℕ → Registers
answered r value = at_next (with_register r 10 value)

abbrev pub lock_call : Shown → (ℕ → Bool) → Registers → ℕ → ℕ → Act
lock_call image held r lock answer =
    faulted_or (lock_fault image held lock) (Called (Lock lock) (answered r answer))

abbrev pub unlock_call : Shown → (ℕ → Bool) → Registers → ℕ → Act
unlock_call image held r lock =
    faulted_or (unlock_fault image held lock) (Called (Unlock lock) (answered r 0))

abbrev pub sleep_call : Registers → ℕ → Act
sleep_call r blocks = faulted_or (sleep_fault blocks) (Called (Sleep blocks) (answered r 0))

-- by the number in x17, with the argument in x10
unfoldable pub guest_call : Shown → (ℕ → Bool) → Registers → ℕ → Act
guest_call image held r answer =
    if get r 17 == 1 then lock_call image held r (get r 10) answer
    else if get r 17 == 2 then unlock_call image held r (get r 10)
    else if get r 17 == 3 then sleep_call r (get r 10)
    else if get r 17 == 93 then Called Exit r
    else Faulted fault.BadCall
