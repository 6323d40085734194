-- What is true of what an act does beside the registers.
use Rattle.std.proofs.Common.{◌≡◌, ℕ, Bool, refl}
use Rattle.std.specs.Prelude.{Some, None}
use Rattle.tc_isa.specs.Registers.{Registers}
use Rattle.tc_elf.specs.Shown.{Shown}
use Rattle.tc_exec.specs.Told.{IsAct}
use Rattle.tc_exec.specs.InPlace.{done_of, regs_after, act_from, IsDone}
use Rattle.tc_exec.specs.declared.outcome.Act.{Act}
use Rattle.tc_exec.specs.declared.outcome.Act.TheVariants.{Next, Called, Faulted}
use Rattle.tc_exec.specs.declared.outcome.Call.TheVariants.{Lock, Unlock, Sleep, Exit}

pub done_told : (image : Shown) (held : ℕ → Bool) (r : Registers) (a : Act) → IsAct image held r a → IsDone image held (done_of a)
done_told image held r (Next next None) t = tt
done_told image held r (Next next (Some put)) t = t
done_told image held r (Called (Lock lock) next) t = t
done_told image held r (Called (Unlock lock) next) t = t.0
done_told image held r (Called (Sleep blocks) next) t = t.0
done_told image held r (Called Exit next) t = tt
done_told image held r (Faulted f) t = tt

-- an act is put together again from what it does to the registers and beside them
pub act_again : (a : Act) (r : Registers) → act_from (done_of a) (regs_after a r) ≡ a
act_again (Next next None) r = refl
act_again (Next next (Some put)) r = refl
act_again (Called call next) r = refl
act_again (Faulted f) r = refl
