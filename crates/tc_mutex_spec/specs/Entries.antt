-- The entries that a history gives the journal of a lock.
use Rattle.std.specs.Prelude.{◌≡◌, ℕ, Bool, true, false, List, [], ◌∷◌, map}
use Rattle.tc_isa.specs.Sets.{has}
use Rattle.tc_elf.specs.Shown.{Shown}
use Rattle.tc_journal.specs.History.{of_lock}
use Rattle.tc_journal.specs.declared.block.Block.{Block}
use Rattle.tc_turn.specs.Turn.{mutex_at_start}
use Rattle.tc_turn.specs.Replay.{Entry, block_in, entry_along, unowned, AreReplayed, replayed}
use Rattle.tc_mutex_spec.specs.Machine.{State, start}
use Rattle.tc_mutex_spec.specs.Blocks.{reach}

-- the block's entry in the journal of lock k, for its steps from this machine on
abbrev pub entry_of : Shown → ℕ → State → Block → Entry
entry_of image k m b = entry_along image k (λ n. (reach image m b.thread n).threads b.thread) (λ n. (reach image m b.thread n).locks) b

abbrev pub with_front : Bool → Entry → List Entry → List Entry
with_front true e es = e ∷ es
with_front false e es = es

-- the entries of those blocks that have the lock, each from the machine after the blocks before it
abbrev pub entries_after : Shown → ℕ → State → List Block → List Entry
entries_after image k m [] = []
entries_after image k m (b ∷ h) = with_front (has b.held k) (entry_of image k m b) (entries_after image k (reach image m b.thread b.turns) h)

-- the entries of lock k for a history: the start, the fuel, the end and the foreign words of each
-- are those of its thread's block in the run
abbrev pub entries_by : Shown → ℕ → List Block → ℕ → List Entry
entries_by image fuel h k = entries_after image k (start image fuel) h

-- the journal of lock k for a history that leads to m: its blocks are those of the lock, and RV32IM
-- replays it from the guard's initial bytes to the lock in m
pub record HasJournal (image : Shown) (fuel : ℕ) (h : List Block) (m : State) (k : ℕ) : Type 0 where
  pub blocks : map block_in (entries_by image fuel h k) ≡ of_lock h k
  pub replays : AreReplayed image k (mutex_at_start image k) (entries_by image fuel h k)
  pub end : replayed image k (mutex_at_start image k) (entries_by image fuel h k) ≡ unowned (m.locks k)
