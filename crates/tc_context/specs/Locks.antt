-- The lock states that a package has, as it and the machine see them.
use Rattle.std.specs.Prelude.{◌≡◌, ℕ, ◌<◌, ◌≤◌, Bool, true, false, ◌==◌, ◌&&◌, if◌then◌else◌, List, [], ◌∷◌, map, slice_get, length, Option, Some, None, is_some, option_map}
use Rattle.tc_isa.specs.Registers.{Registers}
use Rattle.tc_isa.specs.Sets.{has}
use Rattle.tc_isa.specs.declared.limits.TheConstants.{MAX_TURNS}
use Rattle.tc_isa.specs.declared.held.TheConstants.Held.{PLACES}
use Rattle.tc_elf.specs.Shown.{Shown}
use Rattle.tc_elf.specs.Places.{in_guard}
use Rattle.tc_elf.specs.declared.image.Region.{Region}
use Rattle.tc_elf.specs.declared.image.Region.TheVariants as region
use Rattle.tc_exec.specs.Told.{IsWidth}
use Rattle.tc_exec.specs.declared.outcome.Done.{Done}
use Rattle.tc_exec.specs.declared.outcome.Done.TheVariants.{Went, Stored, Called, Faulted}
use Rattle.tc_exec.specs.declared.outcome.Call.TheVariants.{Lock, Unlock, Sleep, Exit}
use Rattle.tc_exec.specs.declared.outcome.Put.{Put}
use Rattle.tc_exec.specs.declared.outcome.Want.{Want}
use Rattle.tc_journal.specs.Batch.{ends_thread}
use Rattle.tc_journal.specs.declared.block.Block.{Block}
use Rattle.tc_turn.specs.Turn.{Mutex}
use Rattle.tc_turn.specs.Replay.{takes_word}
use Rattle.tc_mutex_spec.specs.Slow.{no_mutex}
use Rattle.tc_segment.specs.View.{LockView, Journal, EndedAt, ClosesWith, MayFollow, MayPass, kept, lock_of, guard_of, with_store, with_section, with_break, with_journal, opened_at, noted, closed_with, sealed_as, sealed_with}
use Rattle.tc_context.specs.declared.room.Room.{Room}

abbrev pub slot_of : Option (Option LockView) → Option LockView
slot_of None = None
slot_of (Some slot) = slot

-- the lock state of that number
abbrev pub lock_in : List (Option LockView) → ℕ → Option LockView
lock_in slots k = slot_of (slice_get slots k)

-- the lock, with its owner where the thread t holds it
abbrev pub mutex_of : ℕ → Bool → LockView → Mutex
mutex_of t held l = record { bytes = l.bytes; broken = l.broken; sections = l.sections; owner = if held then Some t else None }

abbrev pub mutex_or : ℕ → Bool → Option LockView → Mutex
mutex_or t held None = no_mutex
mutex_or t held (Some l) = mutex_of t held l

abbrev pub is_open_lock : LockView → Bool
is_open_lock l = is_some l.journal.opened

-- lock k has a place, and this holds of it where it is there
pub record HoldsAt (k : ℕ) (P : LockView → Type 0) (slots : List (Option LockView)) : Type 0 where
  pub place : k < PLACES
  pub lock : (l : LockView) → lock_in slots k ≡ Some l → P l

-- of each lock that is there and in the set
abbrev pub EachHeld : (ℕ → Bool) → (LockView → Type 0) → List (Option LockView) → Type 0
EachHeld held P slots = (k : ℕ) (l : LockView) → lock_in slots k ≡ Some l → held k ≡ true → P l

-- of each lock that is there, with its number
abbrev pub EachLock : (ℕ → LockView → Type 0) → List (Option LockView) → Type 0
EachLock P slots = (k : ℕ) (l : LockView) → lock_in slots k ≡ Some l → P k l

-- a journal at rest, with room for a block's entry
pub record IsReady (j : Journal) : Type 0 where
  pub opened : j.opened ≡ None
  pub closed : j.closed ≡ None
  pub entry : 0 < j.entry_room
  pub words : MAX_TURNS ≤ j.word_room

-- the lock has at least this room
pub record Gives (room : Room) (l : LockView) : Type 0 where
  pub entries : room.entries ≤ l.journal.entry_room
  pub words : room.words ≤ l.journal.word_room

-- there is no more room than in the other
pub record IsWithin (room most : Room) : Type 0 where
  pub entries : room.entries ≤ most.entries
  pub words : room.words ≤ most.words

-- and its last entry ended with these registers
pub record MayGoOn (regs : Registers) (l : LockView) : Type 0 where
  pub ready : IsReady l.journal
  pub ended : EndedAt regs l.journal

-- lock k behind the turns of a block that isn't sealed: the entries of the block's locks are open, and they may be its entries
pub record IsUnsealed (block : Block) (finish : Registers) (k : ℕ) (l : LockView) : Type 0 where
  pub closed : l.journal.closed ≡ None
  pub others : has block.held k ≡ false → l.journal.opened ≡ None
  pub opened : has block.held k ≡ true → is_open_lock l ≡ true
  pub ended : has block.held k ≡ true → ends_thread block.end ≡ true → l.broken ≡ true
  pub closes : has block.held k ≡ true → ClosesWith block finish l

-- the open entry may be that of this block, and sealed with its stamp and worker
pub record CanSeal (block : Block) (finish : Registers) (l : LockView) : Type 0 where
  pub opened : is_open_lock l ≡ true
  pub ended : ends_thread block.end ≡ true → l.broken ≡ true
  pub closes : ClosesWith block finish l
  pub follows : MayFollow block.stamp block.worker (with_journal (closed_with block finish) l)
  pub passes : MayPass (with_journal (closed_with block finish) l)

-- place n has this now, and the others have what they had
abbrev pub IsPlaced : ℕ → Option LockView → List (Option LockView) → List (Option LockView) → Type 0
IsPlaced n o old new = (k : ℕ) → lock_in new k ≡ (if k == n then o else lock_in old k)

-- the same locks, but for their rooms
abbrev pub SameLocks : List (Option LockView) → List (Option LockView) → Type 0
SameLocks old new = (k : ℕ) → option_map kept (lock_in new k) ≡ option_map kept (lock_in old k)

-- each lock state has the number of its place, and stands for the image
pub record IsLockOf (image : Shown) (k : ℕ) (l : LockView) : Type 0 where
  pub number : l.number ≡ k
  pub known : k < length image.guards
  pub of : l.journal.image ≡ image

abbrev pub AreOf : Shown → List (Option LockView) → Type 0
AreOf image slots = (k : ℕ) (l : LockView) → lock_in slots k ≡ Some l → IsLockOf image k l

-- ---- changes of one lock state

abbrev pub when_in : {X : Type 0} → Bool → (X → X) → X → X
when_in true f x = f x
when_in false f x = x

-- a store, by its place
abbrev pub stored_in : Region → ℕ → ℕ → ℕ → ℕ → LockView → LockView
stored_in (region.Guard lock) k addr width value l = when_in (k == lock) (with_store addr width value) l
stored_in _ k addr width value l = l

abbrev pub put_in : Put → ℕ → LockView → LockView
put_in put k l = stored_in put.region k put.addr put.width put.value l

-- lock k after a turn that did this, of a thread that held these locks before it
abbrev pub turned : (ℕ → Bool) → Option Done → ℕ → LockView → LockView
turned held None k l = when_in (held k) with_break l
turned held (Some Went) k l = l
turned held (Some (Stored put)) k l = put_in put k l
turned held (Some (Called (Lock lock))) k l = when_in (k == lock) with_section l
turned held (Some (Called (Unlock lock))) k l = l
turned held (Some (Called (Sleep blocks))) k l = l
turned held (Some (Called Exit)) k l = when_in (held k) with_break l
turned held (Some (Faulted f)) k l = when_in (held k) with_break l

-- the entry of each lock that a turn changes is open, and a store lies in the guard
abbrev pub StoreReady : Region → ℕ → ℕ → ℕ → LockView → Type 0
StoreReady (region.Guard lock) k addr width l = k ≡ lock → (in_guard addr width (guard_of l) ≡ true) × (is_open_lock l ≡ true)
StoreReady _ k addr width l = Unit {0}

abbrev pub PutReady : Put → ℕ → LockView → Type 0
PutReady put k l = StoreReady put.region k put.addr put.width l

abbrev pub TurnReady : (ℕ → Bool) → Option Done → ℕ → LockView → Type 0
TurnReady held None k l = held k ≡ true → is_open_lock l ≡ true
TurnReady held (Some Went) k l = Unit {0}
TurnReady held (Some (Stored put)) k l = PutReady put k l
TurnReady held (Some (Called (Lock lock))) k l = k ≡ lock → is_open_lock l ≡ true
TurnReady held (Some (Called (Unlock lock))) k l = Unit {0}
TurnReady held (Some (Called (Sleep blocks))) k l = Unit {0}
TurnReady held (Some (Called Exit)) k l = held k ≡ true → is_open_lock l ≡ true
TurnReady held (Some (Faulted f)) k l = held k ≡ true → is_open_lock l ≡ true

-- what a turn stores in a guard, or takes, is of a lock that a held set has a place for, and a store has a lawful width
abbrev pub StoreFits : Region → ℕ → Type 0
StoreFits (region.Guard lock) width = (lock < PLACES) × IsWidth width
StoreFits _ width = Unit {0}

abbrev pub TurnFits : Option Done → Type 0
TurnFits None = Unit {0}
TurnFits (Some Went) = Unit {0}
TurnFits (Some (Stored put)) = StoreFits put.region put.width
TurnFits (Some (Called (Lock lock))) = lock < PLACES
TurnFits (Some (Called (Unlock lock))) = Unit {0}
TurnFits (Some (Called (Sleep blocks))) = Unit {0}
TurnFits (Some (Called Exit)) = Unit {0}
TurnFits (Some (Faulted f)) = Unit {0}

-- the changes of each lock k, at its place
abbrev pub Changed : (ℕ → LockView → LockView) → List (Option LockView) → List (Option LockView) → Type 0
Changed f old new = (k : ℕ) → lock_in new k ≡ option_map (f k) (lock_in old k)

abbrev pub broken_in : (ℕ → Bool) → ℕ → LockView → LockView
broken_in held k l = when_in (held k) with_break l

abbrev pub opened_in : (ℕ → Bool) → Registers → ℕ → ℕ → LockView → LockView
opened_in held start fuel k l = when_in (held k) (with_journal (opened_at (lock_of l) start fuel)) l

abbrev pub noted_in : (ℕ → Bool) → Want → Option ℕ → ℕ → ℕ → LockView → LockView
noted_in held want next value k l = when_in (held k && takes_word k want next) (with_journal (noted (value ∷ []))) l

abbrev pub sealed_in : (ℕ → Bool) → Block → Registers → ℕ → LockView → LockView
sealed_in held block finish k l = when_in (held k) (with_journal (sealed_with block finish)) l

-- each open entry is closed with this block
abbrev pub closed_all : Block → Registers → List (Option LockView) → List (Option LockView)
closed_all block finish locks = map (option_map (with_journal (closed_with block finish))) locks

-- each entry that isn't sealed yet is
abbrev pub sealed_all : ℕ → ℕ → List (Option LockView) → List (Option LockView)
sealed_all stamp worker locks = map (option_map (with_journal (sealed_as stamp worker))) locks

-- a change of the lock of this number alone
abbrev pub at_place : ℕ → (LockView → LockView) → ℕ → LockView → LockView
at_place lock f k l = when_in (k == lock) f l
