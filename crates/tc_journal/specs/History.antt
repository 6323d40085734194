-- Histories: which lists of blocks they are, and their projections.
use Rattle.std.specs.Prelude.{◌≡◌, ℕ, ◌+◌, ◌^◌, ◌<◌, ◌≤◌, ◌==◌, List, [], ◌∷◌, length, map, filter, Contains, IfSome, Vec, slice_set}
use Rattle.std.specs.Global.{Global}
use Rattle.std.specs.List.{flat_map, fold, range_with_len}
use Rattle.tc_isa.specs.Sets.{has}
use Rattle.tc_isa.specs.declared.limits.TheConstants.{MAX_TURNS}
use Rattle.tc_isa.specs.declared.held.TheConstants.Held.{PLACES}
use Rattle.tc_journal.specs.Told.{Told, told}
use Rattle.tc_journal.specs.declared.block.Block.{Block}
use Rattle.tc_journal.specs.declared.block.BlockV1.{BlockV1}
use Rattle.tc_journal.specs.declared.block.End.{End}
use Rattle.tc_journal.specs.declared.block.End.TheVariants.{Wants, Unlocked, Slept, Cut, Exit, Fault, Spent}

-- a lock that an end names has a place in a held set
abbrev pub IsEnd : End → Type 0
IsEnd (Wants lock) = lock < PLACES
IsEnd (Unlocked lock) = lock < PLACES
IsEnd Slept = Unit {0}
IsEnd Cut = Unit {0}
IsEnd Exit = Unit {0}
IsEnd (Fault fault) = Unit {0}
IsEnd Spent = Unit {0}

-- what a line may say of a block in a history: it has 1 to MAX_TURNS steps, its locks have places
-- in a held set, and its other numbers are of their types
pub record IsTold (t : Told) : Type 0 where
  pub stamp : t.block.stamp < 2 ^ 64
  pub thread : t.block.thread < 2 ^ 32
  pub some_turns : 1 ≤ t.block.turns
  pub most_turns : t.block.turns ≤ MAX_TURNS
  pub held : t.block.held < 2 ^ 32
  pub worker : t.block.worker < 2 ^ 32
  pub pc : IfSome t.pc (λ pc. pc < 2 ^ 32)
  pub end : IsEnd t.block.end

-- a block that may be in a history
abbrev pub IsBlock : Block → Type 0
IsBlock b = IsTold (told b)

-- blocks whose lines say this, and whose stamps are the numbers from `first` on
abbrev pub IsToldFrom : {B : Type 0} → (B → Told) → ℕ → List B → Type 0
IsToldFrom told_of first [] = Unit {0}
IsToldFrom told_of first (b ∷ bs) = IsTold (told_of b) × ((told_of b).block.stamp ≡ first) × IsToldFrom told_of (first + 1) bs

-- blocks whose stamps are the numbers from `first` on
abbrev pub IsHistoryFrom : ℕ → List Block → Type 0
IsHistoryFrom first h = IsToldFrom told first h

-- blocks whose stamps are 0, 1, 2 and so on
abbrev pub IsHistory : List Block → Type 0
IsHistory h = IsHistoryFrom 0 h

-- each block is at the index of its stamp
abbrev pub IsInOrder : List Block → Type 0
IsInOrder h = map (λ b. b.stamp) h ≡ range_with_len 0 (length h)

-- the order in which the threads step: pairs of a thread and a number of steps
abbrev pub schedule : List Block → List (ℕ × ℕ)
schedule h = map (λ b. (b.thread, b.turns)) h

abbrev pub schedule_v1 : List BlockV1 → List (ℕ × ℕ)
schedule_v1 old = map (λ b. (b.thread, b.turns)) old

-- the blocks of a thread
abbrev pub of_thread : List Block → ℕ → List Block
of_thread h thread = filter (λ b. b.thread == thread) h

-- the blocks that hold a lock
abbrev pub of_lock : List Block → ℕ → List Block
of_lock h lock = filter (λ b. has b.held lock) h

-- the blocks of all logs, log after log
abbrev pub all_blocks : List (Vec Block Global) → List Block
all_blocks logs = flat_map (λ log. log.items) logs

-- each number below the number of blocks is the stamp of one of them, so no two have the same
abbrev pub HasEachStamp : List Block → Type 0
HasEachStamp blocks = (stamp : ℕ) → stamp < length blocks → Contains (map (λ b. b.stamp) blocks) stamp

-- a history into which these blocks were put, one after the other, each at the index of its stamp
abbrev pub placed : List Block → List Block → List Block
placed history blocks = fold (λ h b. slice_set h b.stamp b) history blocks
