-- The invariant of the table: all operations of the passes have a total order, each is allowed
-- where it comes, and their effects from the opening give the table.
use Rattle.std.specs.Prelude.{◌≡◌, ◌≢◌, ◌⊎◌, ℕ, ◌+◌, ◌%◌, ◌<◌, ◌≤◌, ◌==◌, true, false, if◌then◌else◌, List, [], ◌∷◌, ◌++◌, length, replicate, slice_index, Option, Some, None}
use mathlib.Core.Option.{some}
use lib.ListN.{get_elem?}
use Rattle.atomic_table.specs.Table.{opening}
use Rattle.tc_journal.specs.declared.block.Block.{Block}
use Rattle.tc_segment.specs.View.{LockView, sealed_block}
use Rattle.tc_context.specs.View.{PackageView}
use Rattle.tc_queue.specs.declared.turn.QueueCall.{QueueCall}
use Rattle.tc_queue.specs.Order.{Plain, empty_queue, plain_after}
use Rattle.tc_queue.specs.Order.{MayCome as MayComeThere}
use Rattle.tc_hall.specs.declared.board.TheConstants.{LINE, CLOCK, STOP}
use Rattle.tc_hall.specs.declared.place.TheConstants.{READY, PARKED, WAITING, OUT}
use Rattle.tc_hall.specs.declared.place.Place.{Place}
use Rattle.tc_hall.specs.declared.board.Knows.{Knows}
use Rattle.tc_hall.specs.declared.board.HallTerms.{HallTerms}
use Rattle.tc_hall.specs.declared.board.Miss.{Miss}
use Rattle.tc_hall.specs.declared.board.PassCall.{PassCall}
use Rattle.tc_hall.specs.declared.board.PassCall.TheVariants.{Commit, Take, Free, Line, Look, Stop, Stopped}
use Rattle.tc_hall.specs.declared.board.Cargo.{Cargo}
use Rattle.tc_hall.specs.declared.board.Cargo.TheVariants.{Package, Lock}
use Rattle.tc_hall.specs.Places.{IsInRange, code_of, place_of, slot_word}
use Rattle.tc_hall.specs.Rule.{threads, locks, words_of, starting, Has, HasLock, IsInLimits, KeptHall}
use Rattle.tc_hall.specs.Steps.{MayPut, MayFree, Seals, IsFree, claim_call, put_call}
use Rattle.tc_hall.specs.Standing.{IfLined, CallsAs, ClaimsAs, FreesAs, PutsAs, SealsAs, TakesAs}
use Rattle.tc_hall.specs.Lines.{AreInRange, line_word, lines_of, plain_at}
use Rattle.tc_hall.specs.Effects.{Hall, after, line_effect, claim_effect, commit_effect, put_effect, take_effect, free_effect, look_effect, stop_effect, stopped_effect, miss_effect, reach_effect, lay_effect, with_new_pass, with_joined}
use Rattle.tc_hall.specs.Made.{AreStocked}

-- what a pass does to the table in one step
pub data Operation : Type 0 where
  -- the package of a thread, whose word is this, is taken, by `claim` or `adopt`
  claim : ℕ → ℕ → PackageView → Operation
  -- the state of a lock is taken
  take : ℕ → LockView → Operation
  -- a compare-and-swap on a word expects one number and finds another
  miss : ℕ → ℕ → ℕ → Operation
  -- the pending block of a package is sealed, with this stamp
  commit : ℕ → Block → PackageView → Operation
  put : PackageView → Place → Operation
  free : LockView → Operation
  -- the word of a thread, and the stop word, were read as this
  look : ℕ → ℕ → Operation
  stopped : ℕ → Operation
  stop : Operation
  -- an empty slot is taken, and given back
  reach : ℕ → Operation
  lay : ℕ → Operation
  -- a call on the line of a lock
  line : ℕ → QueueCall → Operation
  -- another pass is made; another, with this state, is joined into this one
  split : Operation
  join : ℕ → Knows → Operation

-- the table after an operation of the pass id, whose state is v
abbrev pub after_operation : HallTerms → Hall → ℕ → Knows → Operation → Hall
after_operation k s id v (claim t word q) = after s id (claim_effect v t word q)
after_operation k s id v (take i l) = after s id (take_effect (threads k) v i l)
after_operation k s id v (miss word wanted found) = after s id (miss_effect v word found)
after_operation k s id v (commit stamp b q) = after s id (commit_effect v stamp b q)
after_operation k s id v (put q place) = after s id (put_effect v q place)
after_operation k s id v (free l) = after s id (free_effect (threads k) v l)
after_operation k s id v (look t found) = after s id (look_effect v t found)
after_operation k s id v stop = after s id (stop_effect v)
after_operation k s id v (stopped found) = after s id (stopped_effect v found)
after_operation k s id v (line i c) = after s id (line_effect k v i c (slice_index s.words (line_word k i c)))
after_operation k s id v (reach slot) = after s id (reach_effect v slot (slice_index s.words (slot_word slot)))
after_operation k s id v (lay slot) = after s id (lay_effect v slot (slice_index s.words (slot_word slot)))
after_operation k s id v split = with_new_pass s id v
after_operation k s id v (join other w) = with_joined s id v other w

-- a thread whose word is this is ready, is parked, or waits for a lock
abbrev pub IsClaimable : HallTerms → ℕ → Type 0
IsClaimable k word = (word ≡ READY) ⊎ ((word ≡ PARKED) ⊎ ((i : ℕ) × (i < locks k) × (word ≡ WAITING + i)))

pub record MayClaim (k : HallTerms) (s : Hall) (v : Knows) (t word : ℕ) (q : PackageView) : Type 0 where
  pub free : v.open_slot ≡ None
  pub below : t < threads k
  pub can : IsClaimable k word
  pub found : slice_index s.words (slot_word t) ≡ word
  pub slot : get_elem? s.homes t ≡ some (some (Some (Package q)))
  pub stands : IfLined k v (ClaimsAs v t (place_of word))

pub record MayTake (k : HallTerms) (s : Hall) (v : Knows) (i : ℕ) (l : LockView) : Type 0 where
  pub free : v.open_slot ≡ None
  pub below : i < locks k
  pub word : slice_index s.words (slot_word (threads k + i)) ≡ 0
  pub slot : get_elem? s.homes (threads k + i) ≡ some (some (Some (Lock l)))
  pub stands : IfLined k v (TakesAs v i)

-- the slot is that of a package or a lock state that the pass has out
pub data IsSlotOut (k : HallTerms) (v : Knows) (slot : ℕ) : Type 0 where
  of_package : (t : ℕ) (p : PackageView) → slot ≡ t → Has v t p → IsSlotOut k v slot
  of_lock : (i : ℕ) (l : LockView) → slot ≡ threads k + i → HasLock v i l → IsSlotOut k v slot

-- the pass holds the slot of the package, and may put it at the place
pub record MayFill (k : HallTerms) (v : Knows) (q : PackageView) (place : Place) : Type 0 where
  pub open_slot : v.open_slot ≡ Some q.context.thread
  pub range : IsInRange (locks k) place
  pub may : MayPut place v q
  pub stands : IfLined k v (PutsAs v q place)

-- the pass id, whose state is v, may do this now
abbrev pub MayDo : HallTerms → Hall → ℕ → Knows → Operation → Type 0
MayDo k s id v (claim t word q) = MayClaim k s v t word q
MayDo k s id v (take i l) = MayTake k s v i l
MayDo k s id v (miss word wanted found) = (slice_index s.words word ≡ found) × (found ≢ wanted)
MayDo k s id v (commit stamp b q) = (slice_index s.words CLOCK ≡ stamp) × (a : Seals v q) × (a.ran.block ≡ b) × IfLined k v (SealsAs v b)
MayDo k s id v (put q place) = MayFill k v q place
MayDo k s id v (free l) = (v.open_slot ≡ Some (threads k + l.number)) × MayFree v l × IfLined k v (FreesAs v l.number)
MayDo k s id v (look t found) = (t < threads k) × (slice_index s.words (slot_word t) ≡ found)
MayDo k s id v stop = Unit {0}
MayDo k s id v (stopped found) = slice_index s.words STOP ≡ found
MayDo k s id v (line i c) = (k.lined ≡ true) × (i < locks k) × MayComeThere (threads k) (plain_at k i s.words) (lines_of i v.calls) c × IfLined k v (CallsAs v i c)
MayDo k s id v (reach slot) = (v.open_slot ≡ None) × IsSlotOut k v slot
MayDo k s id v (lay slot) = (v.open_slot ≡ Some slot) × IsSlotOut k v slot
MayDo k s id v split = (v.maker ≡ true) × (v.made < v.worker)
MayDo k s id v (join other w) = (get_elem? s.views other ≡ some w) × (w.spent ≡ false) × (other ≢ id) × IsFree w × (k.lined ≡ true → IsFree v)

-- an operation, the pass that made it, and the state of the pass before it
pub record Made : Type 0 where
  pub pass : ℕ
  pub knew : Knows
  pub operation : Operation

-- a live pass may do it now
pub record MayCome (k : HallTerms) (s : Hall) (m : Made) : Type 0 where
  pub pass : get_elem? s.views m.pass ≡ some m.knew
  pub live : m.knew.spent ≡ false
  pub may : MayDo k s m.pass m.knew m.operation

-- ---- the order of all operations, the latest first

abbrev pub hall_after : HallTerms → Hall → List Made → Hall
hall_after k s [] = s
hall_after k s (m ∷ before) = after_operation k (hall_after k s before) m.pass m.knew m.operation

abbrev pub IsLegal : HallTerms → Hall → List Made → Type 0
IsLegal k s [] = Unit {0}
IsLegal k s (m ∷ before) = MayCome k (hall_after k s before) m × IsLegal k s before

-- a new hall: each thread is ready with its package at its start, each lock is fresh in its slot,
-- the clock and the stop word are 0, and one pass has nothing out
pub record IsOpening (k : HallTerms) (s : Hall) : Type 0 where
  pub limits : IsInLimits k
  pub slots : List (Option Cargo)
  pub stocked : AreStocked k.image.value (threads k) (locks k) k.fuel k.limit slots
  pub is : s ≡ opening (replicate (words_of k) 0) slots (starting k)

-- ---- the invariant

pub record IsOrdered (k : HallTerms) (s : Hall) : Type 0 where
  pub first : Hall
  pub opens : IsOpening k first
  pub order : List Made
  pub legal : IsLegal k first order
  pub is : s ≡ hall_after k first order

-- ---- each pass's part of the order

-- what a pass records of its operations and of those of the passes that were joined into it
pub record Notes : Type 0 where
  pub calls : List PassCall
  pub sealed : List Block
  pub missed : List Miss
  pub claimed : List PackageView
  pub taken : List LockView

abbrev pub no_notes : Notes
no_notes = record { calls = []; sealed = []; missed = []; claimed = []; taken = [] }

abbrev pub with_noted : Notes → PassCall → Notes
with_noted n c = record n { calls = n.calls ++ c ∷ [] }

abbrev pub both_notes : Notes → Notes → Notes
both_notes n o = record { calls = n.calls ++ o.calls; sealed = n.sealed ++ o.sealed; missed = n.missed ++ o.missed; claimed = n.claimed ++ o.claimed; taken = n.taken ++ o.taken }

-- the notes of the pass id after its operation, if all passes had these before
abbrev pub noted : (ℕ → Notes) → ℕ → Knows → Operation → Notes
noted all id v (claim t word q) = record (with_noted (all id) (claim_call v q word)) { claimed = (all id).claimed ++ q ∷ [] }
noted all id v (take i l) = record (with_noted (all id) (Take l.number)) { taken = (all id).taken ++ l ∷ [] }
noted all id v (miss word wanted found) = record (all id) { missed = (all id).missed ++ record { word = word; found = found } ∷ [] }
noted all id v (commit stamp b q) = record (with_noted (all id) (Commit q.context.thread (sealed_block stamp v.worker b))) { sealed = (all id).sealed ++ sealed_block stamp v.worker b ∷ [] }
noted all id v (put q place) = with_noted (all id) (put_call q place)
noted all id v (free l) = with_noted (all id) (Free l.number)
noted all id v (look t found) = with_noted (all id) (Look t found)
noted all id v (stopped found) = with_noted (all id) (Stopped found)
noted all id v stop = with_noted (all id) Stop
noted all id v (line i c) = with_noted (all id) (Line i c)
noted all id v (reach slot) = all id
noted all id v (lay slot) = all id
noted all id v split = all id
noted all id v (join other w) = both_notes (all id) (all other)

abbrev pub notes_of : List Made → ℕ → Notes
notes_of [] id = no_notes
notes_of (m ∷ before) id = if m.pass == id then noted (notes_of before) m.pass m.knew m.operation else notes_of before id

-- the lists of the pass are these notes
pub record HasNoted (v : Knows) (n : Notes) : Type 0 where
  pub calls : v.calls ≡ n.calls
  pub sealed : v.sealed ≡ n.sealed
  pub missed : v.missed ≡ n.missed
  pub claimed : v.claimed ≡ n.claimed
  pub taken : v.taken ≡ n.taken

-- ---- what holds after every order

-- the word of a thread: the code of the place where its package was put, or the worker that has it
pub data IsThreadWord (k : HallTerms) (word : ℕ) : Type 0 where
  put_at : (place : Place) → IsInRange (locks k) place → word ≡ code_of place → IsThreadWord k word
  out_with : (worker : ℕ) → worker < k.workers → word ≡ OUT + worker → IsThreadWord k word

pub record AreExact (k : HallTerms) (words : List ℕ) : Type 0 where
  pub count : length words ≡ words_of k
  pub of_threads : (t : ℕ) → t < threads k → IsThreadWord k (slice_index words (slot_word t))
  pub of_locks : (i : ℕ) → i < locks k → slice_index words (slot_word (threads k + i)) ≤ 1
  pub of_stop : slice_index words STOP ≤ 1
  -- but for links of lines, no step is on a word that isn't the first of two pairs of cache lines
  pub between : (word : ℕ) → word < slot_word (threads k + locks k) → word % LINE ≢ 0 → slice_index words word ≡ 0
  -- each line has turns and links of the hall's threads
  pub lines : (i : ℕ) → k.lined ≡ true → i < locks k → AreInRange (threads k) (plain_at k i words)

-- the tail and the links of a line for n threads
pub record ShowsLine (k : HallTerms) (i : ℕ) (words : List ℕ) (q : Plain) : Type 0 where
  pub tail : (plain_at k i words).tail ≡ q.tail
  pub links : (t : ℕ) → t < threads k → (plain_at k i words).links t ≡ q.links t

-- the sequential queue after the calls on the line of lock i, in their order
abbrev pub line_after : ℕ → Operation → Plain → Plain
line_after i (line j c) q = if j == i then plain_after q c else q
line_after i o q = q

abbrev pub plain_of : ℕ → List Made → Plain
plain_of i [] = empty_queue
plain_of i (m ∷ before) = line_after i m.operation (plain_of i before)

-- between any two operations the invariants of places, words and history hold
abbrev pub IsKept : Type 0
IsKept = (k : HallTerms) (s : Hall) → IsOrdered k s → KeptHall k s

-- each live pass has in its lists exactly its own operations, in order
abbrev pub HasOwnNotes : Type 0
HasOwnNotes = (k : HallTerms) (s : Hall) (d : IsOrdered k s) (id : ℕ) (v : Knows) → get_elem? s.views id ≡ some v → v.spent ≡ false → HasNoted v (notes_of d.order id)

-- and each word has one of its possible values
abbrev pub HasExactWords : Type 0
HasExactWords = (k : HallTerms) (s : Hall) → IsOrdered k s → AreExact k s.words

-- the words of a line are those of the sequential queue after its calls, in the one order of all operations
abbrev pub HasLineWords : Type 0
HasLineWords = (k : HallTerms) (s : Hall) (d : IsOrdered k s) (i : ℕ) → k.lined ≡ true → i < locks k → ShowsLine k i s.words (plain_of i d.order)
