-- An act as it is done in place: to the registers, and what remains beside them.
use Rattle.std.specs.Prelude.{◌≡◌, ℕ, ◌≤◌, Bool, Some, None}
use Rattle.tc_isa.specs.Registers.{Registers}
use Rattle.tc_isa.specs.declared.limits.TheConstants.{MAX_SLEEP}
use Rattle.tc_elf.specs.Shown.{Shown}
use Rattle.tc_exec.specs.Told.{IsPut, IsLock, IsUnlock}
use Rattle.tc_exec.specs.declared.outcome.Act.{Act}
use Rattle.tc_exec.specs.declared.outcome.Act.TheVariants.{Next, Called, Faulted}
use Rattle.tc_exec.specs.declared.outcome.Call.TheVariants.{Lock, Unlock, Sleep, Exit}
use Rattle.tc_exec.specs.declared.outcome.Done.{Done}
use Rattle.tc_exec.specs.declared.outcome.Done.TheVariants as done

-- the registers that an act leaves, of those before it
abbrev pub regs_after : Act → Registers → Registers
regs_after (Next next put) r = next
regs_after (Called call next) r = next
regs_after (Faulted f) r = r

-- what it does beside them
abbrev pub done_of : Act → Done
done_of (Next next None) = done.Went
done_of (Next next (Some put)) = done.Stored put
done_of (Called call next) = done.Called call
done_of (Faulted f) = done.Faulted f

-- the act was done to registers, and this is left of it
pub record IsDoneBy (act : Act) (before after : Registers) (left : Done) : Type 0 where
  pub done : left ≡ done_of act
  pub regs : after ≡ regs_after act before

-- what is true of what is left
abbrev pub IsDone : Shown → (ℕ → Bool) → Done → Type 0
IsDone image held done.Went = Unit {0}
IsDone image held (done.Stored put) = IsPut image held put
IsDone image held (done.Called (Lock lock)) = IsLock image held lock
IsDone image held (done.Called (Unlock lock)) = IsUnlock image held lock
IsDone image held (done.Called (Sleep blocks)) = blocks ≤ MAX_SLEEP
IsDone image held (done.Called Exit) = Unit {0}
IsDone image held (done.Faulted f) = Unit {0}

-- the act that did this, and left these registers
abbrev pub act_from : Done → Registers → Act
act_from done.Went r = Next r None
act_from (done.Stored put) r = Next r (Some put)
act_from (done.Called call) r = Called call r
act_from (done.Faulted f) r = Faulted f
