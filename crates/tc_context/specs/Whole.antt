-- A package's thread and locks as a part of the machine.
use Rattle.std.specs.Prelude.{◌≡◌, ℕ, ◌<◌, ◌≤◌, ◌-◌, Bool, false, length, Option, Some, None, is_some}
use Rattle.std.specs.Option.{option_map}
use Rattle.tc_isa.specs.Sets.{has}
use Rattle.tc_elf.specs.Shown.{Shown}
use Rattle.tc_journal.specs.declared.block.Block.{Block}
use Rattle.tc_journal.specs.declared.block.End.{End}
use Rattle.tc_turn.specs.declared.status.Status.TheVariants.{Running}
use Rattle.tc_turn.specs.Turn.{Thread, Mutex, thread_of, next_lock}
use Rattle.tc_turn.specs.Reads.{Covers}
use Rattle.tc_turn.specs.Replay.{Entry}
use Rattle.tc_mutex_spec.specs.Machine.{State}
use Rattle.tc_mutex_spec.specs.Locality.{Agree, Apart}
use Rattle.tc_mutex_spec.specs.Blocks.{locks_of_block, Runs}
pub use Rattle.tc_mutex_spec.specs.Entries.{entry_of}
use Rattle.tc_segment.specs.View.{LockView, Journal, EndedAt}
use Rattle.tc_context.specs.Locks.{lock_in, mutex_or, when_in, AreOf, EachHeld}
use Rattle.tc_context.specs.declared.context.Context.{Context}

abbrev pub thread_in : Context → Thread
thread_in p = thread_of p.guest

-- a lock that is in the package, with its thread as owner where it is held
abbrev pub mutex_at : Context → ℕ → Mutex
mutex_at p k = mutex_or p.thread (has p.guest.held k) (lock_in p.locks k)

-- the package alone, as a machine: its thread under every number, and its locks
abbrev pub whole : Context → State
whole p = record { threads = λ k. thread_in p; locks = mutex_at p }

-- the locks that are in the package
abbrev pub set_of : Context → ℕ → Bool
set_of p k = is_some (lock_in p.locks k)

abbrev pub journal_in : LockView → Journal
journal_in l = l.journal

abbrev pub journal_at : Context → ℕ → Option Journal
journal_at p k = option_map journal_in (lock_in p.locks k)

-- the same locks are in the package, and its thread has the same number
pub record Keeps (old new : Context) : Type 0 where
  pub thread : new.thread ≡ old.thread
  pub set : (k : ℕ) → set_of new k ≡ set_of old k
  pub of : (image : Shown) → AreOf image old.locks → AreOf image new.locks

-- the thread runs, its number is the image's, and the locks that its next turn can touch are in the package
pub record CanGo (image : Shown) (p : Context) : Type 0 where
  pub guards : length image.guards ≤ 32
  pub thread : p.thread < length image.entries
  pub running : p.guest.status ≡ Running
  pub of : AreOf image p.locks
  pub covers : Covers image (set_of p) (thread_in p)

-- the locks of the package's next block
abbrev pub block_locks : Shown → Context → ℕ → Bool
block_locks image p k = locks_of_block (has p.guest.held) (next_lock image (thread_in p)) k

-- in any machine where the thread and the locks of its next block are as the package has them, the block of these turns is
-- there, and it leads to a machine that differs in these alone, and has them as the package has them afterwards
pub record RunsAs (image : Shown) (old new : Context) (turns : ℕ) (end : End) : Type 0 where
  pub keeps : Keeps old new
  pub block : (m : State) → Agree old.thread (block_locks image old) (whole old) m
      → (to : State) × (Runs image m old.thread turns end to) × (Agree old.thread (block_locks image old) (whole new) to) × (Apart old.thread (block_locks image old) m to)
  pub others : (k : ℕ) → block_locks image old k ≡ false → mutex_at new k ≡ mutex_at old k

-- ---- the journals

-- the journal with this entry more, which isn't sealed yet
abbrev pub with_entry : Entry → Journal → Journal
with_entry e j = record {
  image = j.image;
  limit = j.limit;
  strict = j.strict;
  sealed = j.sealed;
  closed = Some e;
  opened = None;
  entry_room = j.entry_room - 1;
  word_room = j.word_room - length e.foreign;
}

abbrev pub entered : Bool → Entry → Journal → Journal
entered b e j = when_in b (with_entry e) j

-- each lock of the block has the block's entry more, and no other entry is changed
pub record Journals (image : Shown) (old new : Context) (b : Block) : Type 0 where
  pub held : (k : ℕ) → has b.held k ≡ block_locks image old k
  pub entries : (k : ℕ) → journal_at new k ≡ option_map (entered (has b.held k) (entry_of image k (whole old) b)) (journal_at old k)

-- the last entry of each lock that the thread holds ended with the registers that the thread has
abbrev pub AreEnded : Context → Type 0
AreEnded p = EachHeld (has p.guest.held) (λ l. EndedAt p.guest.regs l.journal) p.locks
