-- A lock state's fields, as it is seen, and what they keep.
use Rattle.std.specs.Prelude.{◌≡◌, ℕ, ◌+◌, ◌-◌, ◌*◌, ◌^◌, ◌<◌, ◌≤◌, Bool, true, false, List, [], ◌∷◌, map, length, take, drop, slice_get, Vec, vec_len, vec_capacity, Option, Some, None, option_map, Result, OnOk, OnErr}
use Rattle.std.specs.Global.{Global}
use Rattle.std.specs.List.{All, sum_by}
use Rattle.tc_elf.specs.Shown.{Shown, guard_at}
use Rattle.tc_isa.specs.Registers.{Registers}
use Rattle.tc_isa.specs.declared.held.TheConstants.Held.{PLACES}
use Rattle.tc_journal.specs.Batch.{run_of}
use Rattle.tc_journal.specs.declared.block.Block.{Block}
use Rattle.tc_turn.specs.Turn.{Mutex, mutex_at_start}
use Rattle.tc_turn.specs.Replay.{Entry, block_in, replayed}
use Rattle.tc_segment.specs.Draft.{block_from, end_of}
use Rattle.tc_segment.specs.declared.draft.Draft.{Draft}
use Rattle.tc_segment.specs.declared.record.Record.{Record}
use Rattle.tc_segment.specs.declared.record.Opening.{Opening}
use Rattle.tc_segment.specs.declared.record.Sums.{Sums}
use Rattle.tc_segment.specs.declared.state.Contents.{Contents}
use Rattle.tc_segment.specs.Edges.{room_in}
use Rattle.tc_segment.specs.Packed.{IsPlace, StandsLast, behind, regs_at}
use Rattle.tc_segment.specs.declared.packed.TheConstants.{MOST_WORDS}
use Rattle.tc_segment.specs.View.{LockView, Journal, Opened, EndedAt, IsSoundLock, blocks_of}

abbrev pub block_of : Record → Block
block_of r = record { stamp = r.stamp; thread = r.thread; turns = r.turns; held = r.held; kind = r.kind; worker = r.worker; pc = r.pc; end = end_of r.ending }

-- where the registers before the block stand
abbrev pub start_of : Record → ℕ
start_of r = r.before.value + r.step

-- an entry, whose registers and words stand at the record's places: the registers behind the block right behind those before it
abbrev pub shown : List ℕ → List ℕ → Record → Entry
shown edges words r = record { block = block_of r; start = regs_at edges (start_of r); fuel = r.fuel; finish = regs_at edges (behind edges (start_of r)); foreign = take r.words (drop r.from.value words) }

-- where the registers of the record before begin, and how far behind them those of the record do
abbrev pub steps_of : Record → ℕ × ℕ
steps_of r = (r.before.value, r.step)

-- where its foreign words begin, and how many there are
abbrev pub words_of : Record → ℕ × ℕ
words_of r = (r.from.value, r.words)

-- what these parts of all records are in sum
abbrev pub sum_of : (Record → ℕ × ℕ) → List Record → ℕ
sum_of part rs = sum_by (λ (r : Record). (part r).1) rs

abbrev pub sums_of : List Record → Sums
sums_of rs = record { steps = sum_of steps_of rs; words = sum_of words_of rs }

-- they are numbers of 32 bits
abbrev pub AreSmall : Sums → Type 0
AreSmall s = (s.steps < 2 ^ 32) × (s.words < 2 ^ 32)

abbrev pub sealed_record : ℕ → ℕ → Record → Record
sealed_record stamp worker r = record r { stamp = stamp; worker = worker }

abbrev pub shown_open : Mutex → List ℕ → List ℕ → Opening → Opened
shown_open from edges words o = record { start = regs_at edges o.start; fuel = o.fuel; from = from; foreign = drop o.from words }

-- what an open entry and those behind it are shown with: whose journal it is, and the registers and words that it keeps
pub record Grounds : Type 0 where
  pub image : Shown
  pub number : ℕ
  pub limit : ℕ
  pub strict : Bool
  pub edges : List ℕ
  pub words : List ℕ

abbrev pub grounds : Shown → ℕ → ℕ → Bool → List ℕ → List ℕ → Grounds
grounds image number limit strict edges words = record { image = image; number = number; limit = limit; strict = strict; edges = edges; words = words }

-- of these entries the first so many are sealed, and one behind them is closed
abbrev pub shown_journal : Grounds → List Entry → ℕ → Option Opening → ℕ → ℕ → Journal
shown_journal g es sealed opened entry_room word_room = record {
  image = g.image;
  limit = g.limit;
  strict = g.strict;
  sealed = take sealed es;
  closed = slice_get es sealed;
  opened = option_map (shown_open (replayed g.image g.number (mutex_at_start g.image g.number) es) g.edges g.words) opened;
  entry_room = entry_room;
  word_room = word_room;
}

-- the entry that is open, where one is
abbrev pub open_in : Bool → Opening → Option Opening
open_in false next = None
open_in true next = Some next

abbrev pub count : Bool → ℕ
count false = 0
count true = 1

-- for how many entries more there is room, beside the open one
abbrev pub entry_room_in : Contents → ℕ
entry_room_in a = a.most - vec_len a.records - count a.opened

abbrev pub view_of : Contents → LockView
view_of a = record {
  number = a.number;
  bytes = a.bytes.items;
  broken = a.broken;
  sections = a.sections;
  journal = shown_journal (grounds a.of.value a.number a.limit a.strict a.edges.words a.words.items) (map (shown a.edges.words a.words.items) a.records.items) a.sealed (open_in a.opened a.next) (entry_room_in a) (room_in a.words);
}

-- ---- what is kept

-- the record's registers and words are there
pub record Fits (edges : List ℕ) (words : List ℕ) (r : Record) : Type 0 where
  pub start : IsPlace edges (start_of r)
  pub finish : IsPlace edges (behind edges (start_of r))
  pub small : start_of r < 2 ^ 32
  pub inside : r.from.value + r.words ≤ length words

-- the record of an open entry whose block was drafted so
pub record IsRecordOf (draft : Draft) (next : Opening) (further noted : ℕ) (r : Record) : Type 0 where
  pub block : block_of r ≡ block_from draft
  pub fuel : r.fuel ≡ next.fuel
  pub before : r.before.value ≡ next.before
  pub step : r.step ≡ further
  pub words : r.words ≡ noted
  pub from : r.from.value ≡ next.from

-- the closed entry is that of this block
abbrev pub IsClosed : Block → LockView → Type 0
IsClosed block l = option_map block_in l.journal.closed ≡ Some block

-- each part begins where the one before ends, from one place to another
abbrev pub AreParts : ℕ → List (ℕ × ℕ) → ℕ → Type 0
AreParts from [] to = from ≡ to
AreParts from (p ∷ ps) to = (p.0 ≡ from) × AreParts (from + p.1) ps to

-- the next registers begin not far behind those of the last record, and so few words follow that a step is a small number
pub record IsNear (next : Opening) (opened count : ℕ) : Type 0 where
  pub behind : next.before ≤ next.start
  pub inside : next.start ≤ count
  pub near : count ≤ next.before + MOST_WORDS * (2 + opened)
  pub small : next.before < 2 ^ 32

-- the items are as they were, in no less room, and where this went well, so many more have room
pub record HasMadeRoom {X E : Type 0} (more : ℕ) (old new : Vec X Global) (went : Result (Unit {0}) E) : Type 0 where
  pub items : new.items ≡ old.items
  pub capacity : vec_capacity old ≤ vec_capacity new
  pub ok : OnOk went (vec_len new + more ≤ vec_capacity new)
  pub err : OnErr went (vec_capacity new ≡ vec_capacity old)

-- and so have so many words, at places that are numbers of 32 bits
pub record HasWordRoom {E : Type 0} (more : ℕ) (old new : Vec ℕ Global) (went : Result (Unit {0}) E) : Type 0 where
  pub made : HasMadeRoom more old new went
  pub places : OnOk went (vec_len new + more < 2 ^ 32)

abbrev pub AllFit : List ℕ → List ℕ → List Record → Type 0
AllFit edges words rs = All (Fits edges words) rs

abbrev pub OpenFits : List ℕ → List ℕ → Option Opening → Type 0
OpenFits edges words None = Unit {0}
OpenFits edges words (Some o) = StandsLast edges o.start (regs_at edges o.start) × (o.from ≤ length words)

-- the foreign words of these records are such parts, and so are their steps
abbrev pub AreCounted : List Record → ℕ → ℕ → Type 0
AreCounted rs from before = AreParts 0 (map words_of rs) from × AreParts 0 (map steps_of rs) before

-- there is the room for entries that it says, with the registers of each, and a word's place is a number of 32 bits
pub record HasRooms (a : Contents) : Type 0 where
  pub entries : vec_len a.records + count a.opened ≤ a.most
  pub most : a.most ≤ vec_capacity a.records
  pub edges : MOST_WORDS * (2 * entry_room_in a + count a.opened) ≤ a.edges.room
  pub words : vec_len a.words < 2 ^ 32

pub record KeptLock (a : Contents) : Type 0 where
  pub sound : IsSoundLock (view_of a)
  pub start : a.start ≡ (guard_at a.of.value a.number).start
  pub records : AllFit a.edges.words a.words.items a.records.items
  pub sealed : a.sealed ≤ length a.records.items
  pub closed : length a.records.items ≤ a.sealed + 1
  pub opened : OpenFits a.edges.words a.words.items (open_in a.opened a.next)
  -- where no entry is open, the next one goes on from the last one's registers and words
  pub from : a.opened ≡ false → a.next.from ≡ length a.words.items
  pub ends : a.opened ≡ false → (regs : Registers) → EndedAt regs (view_of a).journal → StandsLast a.edges.words a.next.start regs
  -- all records have the words before those of the open entry, or the next one, and their steps lead to the last one's registers
  pub parts : AreCounted a.records.items a.next.from a.next.before
  pub near : IsNear a.next (count a.opened) (length a.edges.words)
  pub few : length a.of.value.guards ≤ PLACES
  pub run : a.run ≡ run_of a.number (blocks_of (view_of a))
  pub short : a.run ≤ a.limit
  pub rooms : HasRooms a
