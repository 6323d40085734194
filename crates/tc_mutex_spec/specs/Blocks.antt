-- Blocks of a thread's steps, and the histories that are traces of runs.
use Rattle.std.specs.Prelude.{◌≡◌, ℕ, zero, suc, ◌+◌, ◌<◌, Bool, true, false, not, ◌||◌, ◌==◌, List, [], ◌∷◌, ◌++◌, length, is_some, Option, Some, None, if◌then◌else◌}
use Rattle.tc_isa.specs.Sets.{has}
use Rattle.tc_elf.specs.Shown.{Shown}
use Rattle.tc_journal.specs.Batch.{is_section, ends_section}
use Rattle.tc_journal.specs.Rule.{end_rule}
use Rattle.tc_journal.specs.Told.{with_pc}
use Rattle.tc_journal.specs.declared.block.Block.{Block}
use Rattle.tc_journal.specs.declared.block.BlockV1.{BlockV1}
use Rattle.tc_journal.specs.declared.block.End.{End}
use Rattle.tc_journal.specs.declared.block.Kind.{Kind}
use Rattle.tc_journal.specs.declared.block.Kind.TheVariants.{Start, On, Taken, Adopted, Granted}
use Rattle.tc_turn.specs.Turn.{is_running, next_lock, next_act, outcome_of, plus_lock}
use Rattle.tc_mutex_spec.specs.Machine.{State, can_turn, after, start}

-- ---- one block

-- the machine after n steps of t, whether or not they are defined
abbrev pub reach : Shown → State → ℕ → ℕ → State
reach image m t zero = m
reach image m t (suc n) = after image (reach image m t n) t

-- how t's block from m ends, if it ends with step number n, counted from 0
abbrev pub end_at : Shown → State → ℕ → ℕ → Option End
end_at image m t n =
    end_rule
    (outcome_of (next_act image ((reach image m t n).threads t) (reach image m t n).locks))
    (n + 1)
    (next_lock image ((after image (reach image m t n) t).threads t))

-- t has a block of n steps from m to `to`: its steps are defined, and the first of them that ends it is the last
pub record Runs (image : Shown) (m : State) (t n : ℕ) (end : End) (to : State) : Type 0 where
  pub some : 0 < n
  pub defined : (k : ℕ) → k < n → can_turn image (reach image m t k) t ≡ true
  pub before : (k : ℕ) → k + 1 < n → end_at image m t k ≡ None
  pub ends : (k : ℕ) → k + 1 ≡ n → end_at image m t k ≡ Some end
  pub last : to ≡ reach image m t n

-- the locks of a block: what its thread holds before it, and the lock that its first step takes
abbrev pub locks_of_block : (ℕ → Bool) → Option ℕ → ℕ → Bool
locks_of_block held None = held
locks_of_block held (Some lock) = plus_lock held lock

-- ---- histories

abbrev pub is_first : Kind → Bool
is_first Start = true
is_first On = false
is_first Taken = false
is_first Adopted = false
is_first Granted = false

abbrev pub has_block : List Block → ℕ → Bool
has_block [] t = false
has_block (b ∷ h) t = (b.thread == t) || has_block h t

-- the block is one of a run after those that were seen, from m to last, and its pc is its thread's
-- in m. Its stamp, worker and the way in which it got a lock don't matter
pub record Stands (image : Shown) (seen : List Block) (m : State) (b : Block) (last : State) : Type 0 where
  pub runs : Runs image m b.thread b.turns b.end last
  pub held : (k : ℕ) → has b.held k ≡ locks_of_block (m.threads b.thread).held (next_lock image (m.threads b.thread)) k
  pub pc : b.pc ≡ (m.threads b.thread).regs.pc
  pub section : is_section b.kind ≡ is_some (next_lock image (m.threads b.thread))
  pub first : is_section b.kind ≡ false → is_first b.kind ≡ not (has_block seen b.thread)

-- the blocks are a trace from m to last, after those that were seen
abbrev pub TellsAfter : Shown → List Block → State → List Block → State → Type 0
TellsAfter image seen m [] last = m ≡ last
TellsAfter image seen m (b ∷ h) last = (mid : State) × Stands image seen m b mid × TellsAfter image (seen ++ b ∷ []) mid h last

-- the history is a trace of a run from the start to last
abbrev pub Tells : Shown → ℕ → List Block → State → Type 0
Tells image fuel h last = TellsAfter image [] (start image fuel) h last

-- who owns lock k after its blocks, of which this is the last: nobody if it ended a section or
-- there is none, else its thread
abbrev pub owner_by : ℕ → Option Block → Option ℕ
owner_by k None = None
owner_by k (Some b) = if ends_section k b then None else Some b.thread

-- the machine after the blocks, from this one
abbrev pub led_to : Shown → State → List Block → State
led_to image m [] = m
led_to image m (b ∷ h) = led_to image (reach image m b.thread b.turns) h

-- old blocks from m on, each with its thread's pc before it
abbrev pub with_pcs : Shown → State → List BlockV1 → List Block
with_pcs image m [] = []
with_pcs image m (b ∷ old) = with_pc b (m.threads b.thread).regs.pc ∷ with_pcs image (reach image m b.thread b.turns) old

-- the machine at the end of a history
abbrev pub end_after : Shown → ℕ → List Block → State
end_after image fuel h = led_to image (start image fuel) h

-- a complete run: no thread goes on
abbrev pub IsComplete : Shown → State → Type 0
IsComplete image last = (t : ℕ) → t < length image.entries → is_running (last.threads t).status ≡ false
