-- What a step of the executable specification requires, and what it does.
use Rattle.std.specs.Prelude.{◌≡◌, ℕ, ◌<◌, true, List, length, replicate, is_some, IfSome, Option}
use Rattle.tc_elf.specs.Shown.{Shown}
use Rattle.tc_exec.specs.declared.outcome.Act.{Act}
use Rattle.tc_journal.specs.declared.rule.Outcome.{Outcome}
use Rattle.tc_journal.specs.declared.rule.Outcome.TheVariants.{Unlocked}
use Rattle.tc_turn.specs.Turn.{Mutex, ActFits, CanAct, next_act, outcome_of}
use Rattle.tc_mutex_spec.specs.Machine.{can_turn, after, turns}
use Rattle.tc_mutex_spec.specs.Slow.{Plain, LeadsTo, Suits, state_of}

-- the step of thread t is defined
pub record MayTakeTurn (image : Shown) (s : Plain) (t : ℕ) : Type 0 where
  pub suits : Suits image s
  pub defined : can_turn image (state_of s) t ≡ true

-- what the step did, and how it came out; a lock that it released is one of the image's
pub record TookTurn (image : Shown) (old new : Plain) (t : ℕ) (came : Outcome) : Type 0 where
  pub after : state_of new ≡ after image (state_of old) t
  pub outcome : came ≡ outcome_of (next_act image ((state_of old).threads t) (state_of old).locks)
  pub known : (lock : ℕ) → came ≡ Unlocked lock → lock < length image.guards
  pub suits : Suits image new

-- this is what the next step of thread t does
pub record IsNextAct (image : Shown) (s : Plain) (t : ℕ) (act : Option Act) : Type 0 where
  pub value : act ≡ next_act image ((state_of s).threads t) (state_of s).locks
  pub can : IfSome act (CanAct ((state_of s).threads t).fuel)

-- an instruction may do this besides its effect on the locks, which are the image's
pub record MayDo (image : Shown) (all : List Mutex) (act : Option Act) : Type 0 where
  pub locks : length all ≡ length image.guards
  pub fits : IfSome act ActFits

-- so many steps of thread t, and the pc before them; or one of them is undefined, and there is none
pub record TookBlock (image : Shown) (old new : Plain) (t count : ℕ) (first : Option ℕ) : Type 0 where
  pub pc : IfSome first (λ pc. pc ≡ ((state_of old).threads t).regs.pc)
  pub ran : LeadsTo (turns image (state_of old) (replicate count t)) (is_some first) new
  pub suits : Suits image new
