-- What a block asks of a package's thread and locks, and what it made of them.
use Rattle.std.specs.Prelude.{◌≡◌, ℕ, ◌≤◌, Bool, [], Option, None, Result, length, is_some}
use Rattle.tc_isa.specs.declared.fault.Fault.{Fault}
use Rattle.tc_isa.specs.declared.held.TheConstants.Held.{PLACES}
use Rattle.tc_isa.specs.declared.instr.Instr.{Instr}
use Rattle.tc_isa.specs.declared.limits.TheConstants.{MAX_TURNS}
use Rattle.tc_elf.specs.Shown.{Shown}
use Rattle.tc_exec.specs.Step.{instruction_at}
use Rattle.tc_exec.specs.declared.outcome.Done.{Done}
use Rattle.tc_journal.specs.Batch.{is_section}
use Rattle.tc_journal.specs.History.{IsBlock, IsEnd}
use Rattle.tc_journal.specs.Rule.{end_rule}
use Rattle.tc_journal.specs.declared.block.Block.{Block}
use Rattle.tc_journal.specs.declared.block.Kind.{Kind}
use Rattle.tc_turn.specs.InPlace.{outcome_done}
use Rattle.tc_turn.specs.Memory.{own_of}
use Rattle.tc_turn.specs.Turn.{next_lock, thread_at_start, with_own}
use Rattle.tc_context.specs.declared.context.Context.{Context}
use Rattle.tc_context.specs.declared.context.Ran.{Ran}
use Rattle.tc_context.specs.declared.context.Turned.{Turned}
use Rattle.tc_context.specs.declared.context.Turns.{Turns}
use Rattle.tc_context.specs.Whole.{thread_in, CanGo, RunsAs, Journals, AreEnded}
use Rattle.tc_context.specs.Locks.{EachLock, IsUnsealed, closed_all, lock_in}
use Rattle.tc_context.specs.Middle.{AreNoted, AreReady, DidTurn, MayTurn}
use Rattle.tc_context.specs.Ran.{slept_by, slept_in}

-- the thread of this number at its start, but for its own memory, which has no byte; no lock is there
pub record IsAtStart (image : Shown) (t fuel : ℕ) (p : Context) : Type 0 where
  pub thread : thread_in p ≡ with_own (own_of []) (thread_at_start image fuel t)
  pub number : p.thread ≡ t
  pub locks : (k : ℕ) → lock_in p.locks k ≡ None
  pub places : length p.locks ≡ PLACES

-- what so many turns of a block with these locks ask, where the first takes this lock
pub record MayTurns (image decoded : Shown) (block : ℕ → Bool) (n : ℕ) (lock : Option ℕ) (p : Context) : Type 0 where
  pub code : decoded ≡ image
  pub may : MayTurn image block n p
  pub takes : lock ≡ next_lock image (thread_in p)

-- a turn that takes no lock: its instruction, or why there is none
pub record MayTurnBy (image : Shown) (block : ℕ → Bool) (found : Result Instr Fault) (p : Context) : Type 0 where
  pub may : MayTurn image block 1 p
  pub next : next_lock image (thread_in p) ≡ None
  pub instr : instruction_at image p.guest.regs.pc ≡ found

-- a turn that takes no lock, and what it came to for its block
pub record DidCome (image : Shown) (block : ℕ → Bool) (old new : Context) (t : Turned) : Type 0 where
  pub done : Option Done
  pub did : DidTurn image block old new done
  pub is : t ≡ record { end = end_rule (outcome_done done) 0 None; slept = slept_by done }

-- the turns of a block with these locks, whose entries are open: how many they are and how the block ended, the number of its
-- SLEEP, the words that the locks noted, and the lock that the next turn takes
pub record DidTurns (image : Shown) (block : ℕ → Bool) (old new : Context) (t : Turns) : Type 0 where
  pub runs : RunsAs image old new t.count t.end
  pub most : t.count ≤ MAX_TURNS
  pub ends : IsEnd t.end
  pub sleeps : t.slept ≡ slept_in image old t.count
  pub journals : AreNoted image block t.count old new
  pub follows : t.next ≡ next_lock image (thread_in new)

-- what a block of this kind asks, whose first turn takes this lock
pub record MayRunBlock (image decoded : Shown) (kind : Kind) (lock : Option ℕ) (p : Context) : Type 0 where
  pub code : decoded ≡ image
  pub go : CanGo image p
  pub takes : lock ≡ next_lock image (thread_in p)
  pub ready : AreReady p
  pub ended : AreEnded p
  pub section : is_section kind ≡ is_some (next_lock image (thread_in p))

-- the context as it is seen behind the turns of this block: the entries of its locks are closed with it
abbrev pub shut : Block → Context → Context
shut b p = record { thread = p.thread; guest = p.guest; locks = closed_all b p.guest.regs p.locks }

-- the block of this kind that came to this
abbrev pub block_of : Context → Kind → Ran → Block
block_of p kind ran = record { stamp = 0; thread = p.thread; turns = ran.turns.count; held = ran.held; kind = kind; worker = 0; pc = ran.pc; end = ran.turns.end }

-- the block that ran, the entries of its locks, the number of its SLEEP, and the lock that the next turn takes
pub record DidRunBlock (image : Shown) (kind : Kind) (old new : Context) (ran : Ran) : Type 0 where
  pub runs : RunsAs image old (shut (block_of old kind ran) new) ran.turns.count ran.turns.end
  pub journals : Journals image old (shut (block_of old kind ran) new) (block_of old kind ran)
  pub unsealed : EachLock (IsUnsealed (block_of old kind ran) new.guest.regs) new.locks
  pub sleeps : ran.turns.slept ≡ slept_in image old ran.turns.count
  pub pc : ran.pc ≡ (thread_in old).regs.pc
  pub bounds : IsBlock (block_of old kind ran)
  pub follows : ran.turns.next ≡ next_lock image (thread_in new)
