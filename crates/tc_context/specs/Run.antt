-- Turns of a block one after another, by decoded code.
use Rattle.std.specs.Prelude.{◌≡◌, ℕ, ◌+◌, ◌-◌, ◌%◌, ◌^◌, ◌<◌, ◌≤◌, Bool, true, length, Ok}
use Rattle.tc_isa.specs.Sets.{has}
use Rattle.tc_isa.specs.declared.instr.Instr.TheVariants.{Ecall}
use Rattle.tc_elf.specs.Shown.{Shown}
use Rattle.tc_exec.specs.Step.{instruction_at}
use Rattle.tc_context.specs.declared.context.Context.{Context}
use Rattle.tc_context.specs.declared.run.Run.{Run}
use Rattle.tc_context.specs.declared.run.Way.{Way}
use Rattle.tc_context.specs.declared.run.Way.TheVariants.{Stays, Next, Jumps}
use Rattle.tc_context.specs.Locks.{AreOf}
use Rattle.tc_context.specs.Middle.{AreOpen, HasRoom, IsStep, GoesOn}

-- what n such turns ask of the package, whatever fuel the thread has
pub record MayRun (image : Shown) (block : ℕ → Bool) (n : ℕ) (p : Context) : Type 0 where
  pub guards : length image.guards ≤ 32
  pub of : AreOf image p.locks
  pub held : (k : ℕ) → has p.guest.held k ≡ true → block k ≡ true
  pub opened : AreOpen block p
  pub room : HasRoom n block p

-- the package, with so much fuel
abbrev pub fuelled : ℕ → Context → Context
fuelled n p = record { thread = p.thread; guest = record p.guest { fuel = n }; locks = p.locks }

-- a turn, whatever fuel there is, all but what it takes of the fuel
pub record IsGone (image : Shown) (block : ℕ → Bool) (old new : Context) : Type 0 where
  pub step : (left : ℕ) → 0 < left → IsStep image block (fuelled left old) (fuelled (left - 1) new)
  pub fuel : new.guest.fuel ≡ old.guest.fuel

-- it was done, or nothing was
abbrev pub HasGone : Shown → (ℕ → Bool) → Context → Context → Way → Type 0
HasGone image block old new Stays = new ≡ old
HasGone image block old new Next = IsGone image block old new × (new.guest.regs.pc ≡ (old.guest.regs.pc + 4) % 2 ^ 32)
HasGone image block old new Jumps = IsGone image block old new

-- a guest call comes next, where the run says so
abbrev pub StopsAt : Shown → ℕ → Bool → Type 0
StopsAt image pc calls = calls ≡ true → instruction_at image pc ≡ Ok Ecall

-- at most so many turns in a stretch, all but what they take of the fuel, and whether a call comes next
pub record HasStretched (image : Shown) (block : ℕ → Bool) (bound : ℕ) (old new : Context) (run : Run) : Type 0 where
  pub runs : GoesOn image block run.count old (fuelled (old.guest.fuel - run.count) new)
  pub fuel : new.guest.fuel ≡ old.guest.fuel
  pub most : run.count ≤ bound
  pub calls : StopsAt image new.guest.regs.pc run.calls

-- at most so many turns, and whether a call comes next
pub record HasRun (image : Shown) (block : ℕ → Bool) (bound : ℕ) (old new : Context) (run : Run) : Type 0 where
  pub runs : GoesOn image block run.count old new
  pub most : run.count ≤ bound
  pub calls : StopsAt image new.guest.regs.pc run.calls
