-- A turn that is done in place: what becomes of a thread by what the turn did beside the registers.
use Rattle.std.specs.Prelude.{◌≡◌, ℕ, ◌-◌, ◌<◌, Bool, true, false, Option, Some, None, IfSome}
use Rattle.std.specs.Option.{option_map}
use Rattle.tc_isa.specs.Registers.{Registers}
use Rattle.tc_isa.specs.declared.fault.Fault.{Fault}
use Rattle.tc_elf.specs.Shown.{Shown}
use Rattle.tc_exec.specs.InPlace.{done_of}
use Rattle.tc_exec.specs.declared.outcome.Done.{Done}
use Rattle.tc_exec.specs.declared.outcome.Done.TheVariants as done
use Rattle.tc_exec.specs.declared.outcome.Call.TheVariants.{Lock, Unlock, Sleep, Exit}
use Rattle.tc_journal.specs.declared.rule.Outcome.{Outcome}
use Rattle.tc_journal.specs.declared.rule.Outcome.TheVariants as outcome
use Rattle.tc_turn.specs.declared.status.Status.TheVariants as status
use Rattle.tc_turn.specs.Turn.{Thread, with_put, with_end, plus_lock, less_lock, PutFits, act_with, thread_after}

-- the thread that did this beside the registers and the fuel, which have the turn already
abbrev pub thread_done : Thread → Done → Thread
thread_done d done.Went = d
thread_done d (done.Stored put) = with_put (Some put) d
thread_done d (done.Called (Lock lock)) = record d { held = plus_lock d.held lock }
thread_done d (done.Called (Unlock lock)) = record d { held = less_lock d.held lock }
thread_done d (done.Called (Sleep blocks)) = d
thread_done d (done.Called Exit) = with_end status.Exited d
thread_done d (done.Faulted f) = with_end (status.Faulted f) d

-- a thread with these registers and one unit of fuel less
abbrev pub with_regs : Registers → Thread → Thread
with_regs r d = record { regs = r; own = d.own; fuel = d.fuel - 1; status = d.status; held = d.held }

-- how that turn comes out for its block
abbrev pub outcome_done : Option Done → Outcome
outcome_done None = outcome.Spent
outcome_done (Some done.Went) = outcome.Went
outcome_done (Some (done.Stored put)) = outcome.Went
outcome_done (Some (done.Called (Lock lock))) = outcome.Went
outcome_done (Some (done.Called (Unlock lock))) = outcome.Unlocked lock
outcome_done (Some (done.Called (Sleep blocks))) = outcome.Slept
outcome_done (Some (done.Called Exit)) = outcome.Exited
outcome_done (Some (done.Faulted f)) = outcome.Faulted f

-- a store ends within the address space, and a lock is below 32
abbrev pub DoneFits : Done → Type 0
DoneFits done.Went = Unit {0}
DoneFits (done.Stored put) = PutFits (Some put)
DoneFits (done.Called (Lock lock)) = lock < 32
DoneFits (done.Called (Unlock lock)) = lock < 32
DoneFits (done.Called (Sleep blocks)) = Unit {0}
DoneFits (done.Called Exit) = Unit {0}
DoneFits (done.Faulted f) = Unit {0}

-- what a turn did at a place without an instruction, where there was fuel for it
abbrev pub faulted_if : Bool → Fault → Option Done
faulted_if true fault = Some (done.Faulted fault)
faulted_if false fault = None

-- the turn with this answer was done in place, and this is left of it
pub record HasTurned (image : Shown) (old : Thread) (answer : ℕ) (left : Option Done) (new : Thread) : Type 0 where
  pub done : left ≡ option_map done_of (act_with image old answer)
  pub thread : new ≡ thread_after old (act_with image old answer)
  pub fits : IfSome left DoneFits
