-- A package's fields, as it is seen, and what they keep.
use Rattle.std.specs.Prelude.{◌≡◌, ℕ, ◌-◌, ◌<◌, ◌≤◌, Bool, true, List, Option, Some, None, is_some, set, Vec, if◌then◌else◌, vec_len, vec_capacity}
use Rattle.std.specs.Arc.{arc_value}
use Rattle.std.specs.Global.{Global}
use Rattle.std.specs.declared.sync.Arc.{Arc}
use Rattle.tc_isa.specs.Registers.{Registers}
use Rattle.tc_isa.specs.Sets.{has}
use Rattle.tc_journal.specs.Batch.{last_of}
use Rattle.tc_journal.specs.declared.block.Block.{Block}
use Rattle.tc_segment.specs.View.{LockView, sealed_block}
use Rattle.tc_turn.specs.Memory.{Part}
use Rattle.tc_turn.specs.Turn.{Guest, next_lock}
use Rattle.tc_context.specs.declared.context.Context.{Context}
use Rattle.tc_context.specs.declared.package.Contents.{Contents}
use Rattle.tc_context.specs.Locks.{EachLock, Gives, IsUnsealed, closed_all}
use Rattle.tc_context.specs.Whole.{thread_in, set_of, AreEnded}
use Rattle.tc_context.specs.View.{PackageView, IsSoundPackage}

-- the last block of a log, where that isn't sealed yet
abbrev pub pending_in : Bool → List Block → Option Block
pending_in pending log = if pending then last_of log else None

-- the thread's own memory: that with which all threads begin, until the thread has its own copy of it
abbrev pub memory_in : Option (Arc (List Part) Global) → List Part → List Part
memory_in None own = own
memory_in (Some first) own = arc_value first

-- the thread with it, as it is seen
abbrev pub guest_in : Option (Arc (List Part) Global) → Guest → Guest
guest_in first g = record { regs = g.regs; own = memory_in first g.own; fuel = g.fuel; status = g.status; held = g.held }

-- the locks as they are seen: the entries that are open for a block that isn't sealed are closed with it
abbrev pub locks_with : Option Block → Registers → List (Option LockView) → List (Option LockView)
locks_with None regs locks = locks
locks_with (Some b) regs locks = closed_all b regs locks

abbrev pub context_with : Option Block → Contents → Context
context_with pending a = record { thread = a.context.thread; guest = guest_in a.first a.context.guest; locks = locks_with pending a.context.guest.regs a.context.locks }

abbrev pub context_in : Contents → Context
context_in a = context_with (pending_in a.pending a.log.items) a

-- where this block isn't sealed
abbrev pub view_with : Option Block → Contents → PackageView
view_with pending a = record {
  image = a.of.value;
  context = context_with pending a;
  granted = a.granted;
  pending = pending;
  log = a.log.items;
  log_room = vec_capacity a.log - vec_len a.log;
  numbers = a.numbers;
  turns = a.turns;
  slept = a.slept;
}

abbrev pub view_of : Contents → PackageView
view_of a = view_with (pending_in a.pending a.log.items) a

pub record KeptPackage (a : Contents) : Type 0 where
  pub sound : IsSoundPackage (view_of a)
  pub code : arc_value a.code ≡ a.of.value
  pub next : a.next ≡ next_lock a.of.value (thread_in (context_in a))
  pub present : (k : ℕ) → set_of a.context k ≡ has a.present k
  pub pending : is_some (pending_in a.pending a.log.items) ≡ a.pending
  pub log : a.room.entries ≤ vec_capacity a.log - vec_len a.log
  pub room : EachLock (λ k l. Gives a.room l) a.context.locks
  pub ended : AreEnded (context_in a)
  pub unsealed : (b : Block) → pending_in a.pending a.log.items ≡ Some b → EachLock (IsUnsealed b a.context.guest.regs) a.context.locks
  pub edge : a.edge.packed ≡ true → a.edge.regs ≡ a.context.guest.regs
  pub own : vec_len a.log < vec_capacity a.log → a.first ≡ None

-- the last block of a log, which stands at this place, has this stamp and worker now
pub record DidSealLast (stamp worker : ℕ) (old new : Vec Block Global) (place : ℕ) : Type 0 where
  pub log : (b : Block) → last_of old.items ≡ Some b → new.items ≡ set old.items (vec_len old - 1) (sealed_block stamp worker b)
  pub place_is : place ≡ vec_len old - 1
  pub len : vec_len new ≡ vec_len old
  pub capacity : vec_capacity new ≡ vec_capacity old

-- the same log, but for its room, which is no less
pub record IsSameLog (old new : Vec Block Global) : Type 0 where
  pub items : new.items ≡ old.items
  pub capacity : vec_capacity old ≤ vec_capacity new
