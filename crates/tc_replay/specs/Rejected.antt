-- What is wrong with a finished history, and where: a block is wrong for the first reason that applies.
use Rattle.std.specs.Prelude.{◌≡◌, ℕ, ◌+◌, ◌<◌, true, false, not, List, [], ◌∷◌, ◌++◌, length, Some, None, is_some, All}
use Rattle.tc_isa.specs.Sets.{has}
use Rattle.tc_isa.specs.declared.options.Options.{Options as Terms}
use Rattle.tc_elf.specs.Shown.{Shown}
use Rattle.tc_journal.specs.Batch.{is_section, Obeys}
use Rattle.tc_journal.specs.History.{of_lock}
use Rattle.tc_journal.specs.declared.block.Block.{Block}
use Rattle.tc_turn.specs.Turn.{is_running, next_lock}
use Rattle.tc_mutex_spec.specs.Machine.{State}
use Rattle.tc_mutex_spec.specs.Blocks.{locks_of_block, Runs, is_first, has_block, Tells, end_after, IsComplete}
use Rattle.tc_replay.specs.Reasons.{reason_number}
use Rattle.tc_replay.specs.declared.reason.Reason.{Reason}
use Rattle.tc_replay.specs.declared.reason.Reason.TheVariants as reason

-- ---- what a block must satisfy, if the history before it leads to m

-- its thread exists, and has not ended
pub record IsOfThread (image : Shown) (m : State) (b : Block) : Type 0 where
  pub known : b.thread < length image.entries
  pub runs : is_running (m.threads b.thread).status ≡ true

-- if its first step is a LOCK that does not fault, the lock has no owner
abbrev pub IsFree : Shown → State → Block → Type 0
IsFree image m b = (k : ℕ) → next_lock image (m.threads b.thread) ≡ Some k → (m.locks k).owner ≡ None

-- its steps, held set, pc and end are those of the thread's block
pub record IsBlockOf (image : Shown) (m : State) (b : Block) : Type 0 where
  pub to : State
  pub runs : Runs image m b.thread b.turns b.end to
  pub held : (k : ℕ) → has b.held k ≡ locks_of_block (m.threads b.thread).held (next_lock image (m.threads b.thread)) k
  pub pc : b.pc ≡ (m.threads b.thread).regs.pc

-- its kind is that of the block, and with it the blocks of each of its locks obey the batch limit
pub record IsOfKind (image : Shown) (limit : ℕ) (h : List Block) (m : State) (b : Block) : Type 0 where
  pub section : is_section b.kind ≡ is_some (next_lock image (m.threads b.thread))
  pub first : is_section b.kind ≡ false → is_first b.kind ≡ not (has_block h b.thread)
  pub obeys : (k : ℕ) → has b.held k ≡ true → Obeys k limit (of_lock (h ++ b ∷ []) k)

-- what the block must satisfy for this reason not to apply
abbrev pub Meets : Shown → Terms → List Block → State → Block → Reason → Type 0
Meets image terms h m b reason.Text = Unit {0}
Meets image terms h m b reason.Thread = IsOfThread image m b
Meets image terms h m b reason.Owner = IsFree image m b
Meets image terms h m b reason.Block = IsBlockOf image m b
Meets image terms h m b reason.Kind = IsOfKind image terms.limit h m b
Meets image terms h m b reason.Worker = b.worker < terms.workers
Meets image terms h m b reason.Incomplete = Unit {0}

-- the block is wrong for this reason, and no reason with a smaller number applies
pub record IsWrong (image : Shown) (terms : Terms) (h : List Block) (m : State) (b : Block) (r : Reason) : Type 0 where
  pub before : (s : Reason) → reason_number s < reason_number r → Meets image terms h m b s
  pub fails : Meets image terms h m b r → ⊥

-- no reason applies to the block
pub record IsRight (image : Shown) (terms : Terms) (h : List Block) (m : State) (b : Block) : Type 0 where
  pub thread : IsOfThread image m b
  pub free : IsFree image m b
  pub block : IsBlockOf image m b
  pub kind : IsOfKind image terms.limit h m b
  pub worker : b.worker < terms.workers

-- ---- histories

-- each block is right after those before it
abbrev pub AreRightAfter : Shown → Terms → List Block → List Block → Type 0
AreRightAfter image terms seen [] = Unit {0}
AreRightAfter image terms seen (b ∷ h) = IsRight image terms seen (end_after image terms.fuel seen) b × AreRightAfter image terms (seen ++ b ∷ []) h

abbrev pub AreRight : Shown → Terms → List Block → Type 0
AreRight image terms h = AreRightAfter image terms [] h

-- what comes next is wrong for this reason: the next block, or a missing block while a thread can go on
abbrev pub IsWrongNext : Shown → Terms → List Block → List Block → Reason → Type 0
IsWrongNext image terms before [] r = (r ≡ reason.Incomplete) × (IsComplete image (end_after image terms.fuel before) → ⊥)
IsWrongNext image terms before (b ∷ rest) r = IsWrong image terms before (end_after image terms.fuel before) b r

-- the history is rejected at this line, from 1, for this reason
pub record IsRejected (image : Shown) (terms : Terms) (h : List Block) (line : ℕ) (r : Reason) : Type 0 where
  pub before : List Block
  pub rest : List Block
  pub whole : h ≡ before ++ rest
  pub place : line ≡ length before + 1
  pub right : AreRight image terms before
  pub wrong : IsWrongNext image terms before rest r

-- nothing is wrong with it
pub record IsAccepted (image : Shown) (terms : Terms) (h : List Block) : Type 0 where
  pub right : AreRight image terms h
  pub complete : IsComplete image (end_after image terms.fuel h)

-- equivalently: it is a trace of a complete run, obeys the batch limit, and its workers exist
pub record IsCompleteRun (image : Shown) (terms : Terms) (h : List Block) : Type 0 where
  pub tells : Tells image terms.fuel h (end_after image terms.fuel h)
  pub complete : IsComplete image (end_after image terms.fuel h)
  pub obeys : (k : ℕ) → Obeys k terms.limit (of_lock h k)
  pub workers : All (λ (b : Block). b.worker < terms.workers) h

-- t is the first thread that can go on in m
pub record IsFirstOn (image : Shown) (m : State) (t : ℕ) : Type 0 where
  pub known : t < length image.entries
  pub runs : is_running (m.threads t).status ≡ true
  pub first : (u : ℕ) → u < t → is_running (m.threads u).status ≡ false
