-- A lock state, as contracts see it.
use Rattle.std.specs.Prelude.{◌≡◌, ℕ, ◌+◌, ◌-◌, ◌^◌, ◌<◌, ◌≤◌, min, Bool, true, false, not, ◌||◌, List, [], ◌∷◌, ◌++◌, map, length, slice_get, Option, Some, None, IfSome, option_map, is_some, if◌then◌else◌}
use Rattle.tc_isa.specs.Registers.{Registers}
use Rattle.tc_isa.specs.declared.limits.TheConstants.{MAX_BATCH}
use Rattle.tc_isa.specs.declared.held.TheConstants.Held.{PLACES}
use Rattle.tc_elf.specs.Shown.{Shown, Guard, guard_at}
use Rattle.tc_elf.specs.Kept.{IsGuard}
use Rattle.tc_journal.specs.Batch.{Obeys, PassesOn, ends_thread, ends_section, last_of, allows_of, may_follow, passes_to, passes_on}
use Rattle.tc_journal.specs.declared.block.Block.{Block}
use Rattle.tc_journal.specs.declared.block.End.{End}
use Rattle.tc_journal.specs.declared.block.Kind.{Kind}
use Rattle.tc_turn.specs.Memory.{put_number}
use Rattle.tc_turn.specs.Turn.{Mutex, mutex_at_start}
use Rattle.tc_turn.specs.Replay.{Entry, ended, guard_number, Replays, replay_entry, replayed, AreReplayed}
pub use Rattle.tc_turn.specs.Replay.{block_in}

-- the entry of the block that runs: the lock as it was before it, and its words so far
pub record Opened : Type 0 where
  pub start : Registers
  pub fuel : ℕ
  pub from : Mutex
  pub foreign : List ℕ

-- the sealed entries, the closed one that isn't sealed yet, and the open one, with the room for entries and for words; a
-- strict journal takes no section that is passed on to the thread that had the lock before
pub record Journal : Type 0 where
  pub image : Shown
  pub limit : ℕ
  pub strict : Bool
  pub sealed : List Entry
  pub closed : Option Entry
  pub opened : Option Opened
  pub entry_room : ℕ
  pub word_room : ℕ

pub record LockView : Type 0 where
  pub number : ℕ
  pub bytes : List ℕ
  pub broken : Bool
  pub sections : ℕ
  pub journal : Journal

-- the lock, which has no owner where it replays
abbrev pub lock_of : LockView → Mutex
lock_of l = record { bytes = l.bytes; broken = l.broken; sections = l.sections; owner = None }

abbrev pub guard_of : LockView → Guard
guard_of l = guard_at l.journal.image l.number

abbrev pub with_closed : {X : Type 0} → List X → Option X → List X
with_closed sealed None = sealed
with_closed sealed (Some e) = sealed ++ e ∷ []

-- all entries: the last one may not be sealed yet
abbrev pub entries : Journal → List Entry
entries j = with_closed j.sealed j.closed

abbrev pub finish_in : Entry → Registers
finish_in e = e.finish

-- the registers of the thread behind the last entry, which may not be sealed yet
abbrev pub last_finish : List Entry → Option Entry → Option Registers
last_finish sealed None = option_map finish_in (slice_get sealed (length sealed - 1))
last_finish sealed (Some e) = Some e.finish

abbrev pub EndedAt : Registers → Journal → Type 0
EndedAt regs j = last_finish j.sealed j.closed ≡ Some regs

-- the blocks that were sealed
abbrev pub blocks_of : LockView → List Block
blocks_of l = map block_in l.journal.sealed

-- whether the batch rule lets the next section be of this kind, with this worker of its first block
abbrev pub allows_in : LockView → Kind → ℕ → Bool
allows_in l kind worker = allows_of l.number l.journal.limit (blocks_of l) kind worker

abbrev pub IsStrict : LockView → Type 0
IsStrict l = l.journal.strict ≡ true

-- whether the next section may be of this kind and this thread: in a strict journal, one that is passed on goes to another
-- thread than that of the section before it
abbrev pub passes_in : LockView → Kind → ℕ → Bool
passes_in l kind thread = not l.journal.strict || passes_to (last_of (blocks_of l)) kind thread

-- the number in so many bytes of the guard
abbrev pub number_of_guard : LockView → ℕ → ℕ → ℕ
number_of_guard l addr width = guard_number l.journal.image l.number l.bytes addr width

-- what the entries make of the lock
abbrev pub replay_in : ℕ → Journal → Mutex
replay_in number j = replayed j.image number (mutex_at_start j.image number) (entries j)

-- what each lock state keeps, wherever it is: it is of a guard of its image, its entries replay, and their replay is the
-- lock as it is, or as it was when the open entry was opened; beside an open entry each is sealed; its sealed blocks obey
-- its batch limit, and where it is strict, each section that was passed on is of another thread than the one before it
pub record IsSoundLock (l : LockView) : Type 0 where
  pub known : l.number < length l.journal.image.guards
  pub small : l.number < PLACES
  pub guard : IsGuard l.journal.image (guard_of l)
  pub bytes : length l.bytes ≡ (guard_of l).length
  pub limit : l.journal.limit ≤ MAX_BATCH
  pub replays : AreReplayed l.journal.image l.number (mutex_at_start l.journal.image l.number) (entries l.journal)
  pub rest : l.journal.opened ≡ None → lock_of l ≡ replay_in l.number l.journal
  pub from : (o : Opened) → l.journal.opened ≡ Some o → o.from ≡ replay_in l.number l.journal
  pub alone : is_some l.journal.opened ≡ true → l.journal.closed ≡ None
  pub obeys : Obeys l.number l.journal.limit (blocks_of l)
  pub passes : IsStrict l → PassesOn l.number (blocks_of l)

-- the last sealed entry of the lock's journal, where there is one, ended a section of the lock
abbrev pub EndsSection : ℕ → LockView → Type 0
EndsSection k l = IfSome (last_of (blocks_of l)) (λ b. ends_section k b ≡ true)

-- lock k of the image at rest: no entry is open or unsealed, and the last one, where there is one, ended a section
pub record IsAtRest (image : Shown) (k : ℕ) (l : LockView) : Type 0 where
  pub number : l.number ≡ k
  pub of : l.journal.image ≡ image
  pub opened : l.journal.opened ≡ None
  pub closed : l.journal.closed ≡ None
  pub ended : EndsSection k l

-- ---- at the start

-- the image has a lock of this number, and the batch limit is a lawful one
pub record CanStart (image : Shown) (number limit : ℕ) : Type 0 where
  pub known : number < length image.guards
  pub lawful : limit ≤ MAX_BATCH

abbrev pub fresh_journal : Shown → ℕ → Journal
fresh_journal image limit = record { image = image; limit = limit; strict = true; sealed = []; closed = None; opened = None; entry_room = 0; word_room = 0 }

abbrev pub fresh_state : Shown → ℕ → ℕ → LockView
fresh_state image number limit = record {
  number = number;
  bytes = (mutex_at_start image number).bytes;
  broken = false;
  sections = 0;
  journal = fresh_journal image limit;
}

-- ---- changes of the lock, under an open entry

abbrev pub with_store : ℕ → ℕ → ℕ → LockView → LockView
with_store addr width value l = record l { bytes = put_number (guard_of l).start l.bytes addr width value }

-- a count that stands at the greatest of 64 bits stays there
abbrev pub with_section : LockView → LockView
with_section l = record l { sections = min (l.sections + 1) (2 ^ 64 - 1) }

abbrev pub with_break : LockView → LockView
with_break l = record l { broken = true }

-- the end of a thread breaks the lock
abbrev pub with_end : End → LockView → LockView
with_end end l = record l { broken = ends_thread end || l.broken }

-- ---- changes of the journal

abbrev pub with_journal : (Journal → Journal) → LockView → LockView
with_journal f l = record l { journal = f l.journal }

abbrev pub with_room : ℕ → ℕ → Journal → Journal
with_room entries words j = record j { entry_room = entries; word_room = words }

-- there is room for an entry with so many words
pub record HasRoomFor (count : ℕ) (j : Journal) : Type 0 where
  pub entry : 0 < j.entry_room
  pub words : count ≤ j.word_room

abbrev pub strict_as : Bool → Journal → Journal
strict_as strict j = record j { strict = strict }

-- the lock state without its rooms, which tell nothing of the lock
abbrev pub kept : LockView → LockView
kept l = with_journal (with_room 0 0) l

abbrev pub opened_at : Mutex → Registers → ℕ → Journal → Journal
opened_at from start fuel j = record j {
  opened = Some (record { start = start; fuel = fuel; from = from; foreign = [] });
  entry_room = j.entry_room - 1;
}

abbrev pub more_words : List ℕ → Opened → Opened
more_words ws o = record o { foreign = o.foreign ++ ws }

-- the words are noted where an entry is open
abbrev pub noted : List ℕ → Journal → Journal
noted ws j = record j {
  opened = option_map (more_words ws) j.opened;
  word_room = if is_some j.opened then j.word_room - length ws else j.word_room;
}

abbrev pub entry_from : Block → Registers → Opened → Entry
entry_from block finish o = record { block = block; start = o.start; fuel = o.fuel; finish = finish; foreign = o.foreign }

abbrev pub closed_with : Block → Registers → Journal → Journal
closed_with block finish j = record j { closed = option_map (entry_from block finish) j.opened; opened = None }

-- the open entry's replay, once it is closed with this block, is defined and gives the lock as it is now, broken where the
-- block ended its thread
pub record Closes (l : LockView) (block : Block) (finish : Registers) (o : Opened) : Type 0 where
  pub replays : Replays l.journal.image l.number (entry_from block finish o) o.from
  pub lock : replay_entry l.journal.image l.number (entry_from block finish o) o.from ≡ ended block.end (lock_of l)

-- that of the open entry, where there is one
abbrev pub ClosesWith : Block → Registers → LockView → Type 0
ClosesWith block finish l = (o : Opened) → l.journal.opened ≡ Some o → Closes l block finish o

abbrev pub sealed_block : ℕ → ℕ → Block → Block
sealed_block stamp worker b = record b { stamp = stamp; worker = worker }

abbrev pub sealed_entry : ℕ → ℕ → Entry → Entry
sealed_entry stamp worker e = record e { block = sealed_block stamp worker e.block }

abbrev pub sealed_list : ℕ → ℕ → List Entry → Option Entry → List Entry
sealed_list stamp worker sealed None = sealed
sealed_list stamp worker sealed (Some e) = sealed ++ sealed_entry stamp worker e ∷ []

abbrev pub sealed_as : ℕ → ℕ → Journal → Journal
sealed_as stamp worker j = record j { sealed = sealed_list stamp worker j.sealed j.closed; closed = None }

-- closed with a block that has its stamp and worker, and sealed
abbrev pub sealed_with : Block → Registers → Journal → Journal
sealed_with block finish j = sealed_as block.stamp block.worker (closed_with block finish j)

-- the batch rule lets the closed entry's block be sealed with this stamp and worker
abbrev pub MayFollow : ℕ → ℕ → LockView → Type 0
MayFollow stamp worker l = (e : Entry) → l.journal.closed ≡ Some e → may_follow l.number l.journal.limit (blocks_of l) (sealed_block stamp worker e.block) ≡ true

-- in a strict journal, the section that this block begins, if it was passed on, is of another thread than the one before it
abbrev pub MayPass : LockView → Type 0
MayPass l = (e : Entry) → l.journal.closed ≡ Some e → IsStrict l → passes_on l.number (blocks_of l) e.block ≡ true
