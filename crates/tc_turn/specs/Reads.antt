-- What a turn of a thread reads and what it leaves alone.
use Rattle.std.specs.Prelude.{◌≡◌, ℕ, ◌<◌, Bool, true, false, length, Some}
use Rattle.tc_elf.specs.Shown.{Shown}
use Rattle.tc_exec.specs.Step.{wants_of}
use Rattle.tc_exec.specs.declared.outcome.Want.TheVariants.{Nothing}
use Rattle.tc_turn.specs.Turn.{Thread, next_lock}

-- all locks that the thread's next turn can touch are in the set
pub record Covers (image : Shown) (set : ℕ → Bool) (d : Thread) : Type 0 where
  pub held : (k : ℕ) → d.held k ≡ true → set k ≡ true
  pub next : (k : ℕ) → next_lock image d ≡ Some k → set k ≡ true

-- a lock that the thread's next turn takes is one of the image's, is not held, and the turn loads nothing
pub record TakesLock (image : Shown) (d : Thread) (k : ℕ) : Type 0 where
  pub known : k < length image.guards
  pub free : d.held k ≡ false
  pub alone : wants_of image d.held d.regs ≡ Nothing
