-- What each step says, and its effect on the state of the pass.
use Rattle.std.specs.Prelude.{◌≡◌, ◌≢◌, ◌⊎◌, ℕ, ◌+◌, ◌<◌, Bool, true, false, List, [], ◌∷◌, ◌++◌, length, slice_index_or, slice_set, map, filter, if◌then◌else◌, is_some, Option, Some, None}
use Rattle.std.specs.List.{range_with_len}
use Rattle.std.specs.Option.{option_map}
use mathlib.Core.Option.{some}
use lib.ListN.{get_elem?}
use Rattle.atomic_table.specs.Table.{Me, Step, rest}
use Rattle.tc_elf.specs.Shown.{Shown}
use Rattle.tc_journal.specs.Batch.{Obeys, is_adopted, last_of, may_adopt, run_of}
use Rattle.tc_journal.specs.Handing.{AreTogether, IsHandedOver, has_unlocked}
use Rattle.tc_journal.specs.History.{of_lock}
use Rattle.tc_journal.specs.declared.block.Block.{Block}
use Rattle.tc_journal.specs.declared.block.Kind.{Kind}
use Rattle.tc_journal.specs.declared.block.Kind.TheVariants.{Adopted, Granted}
use Rattle.tc_mutex_spec.specs.Blocks.{Tells, end_after}
use Rattle.tc_segment.specs.View.{LockView, IsAtRest, blocks_of, kept, sealed_block, EndsSection}
use Rattle.tc_context.specs.declared.package.Grant.{Grant}
use Rattle.tc_context.specs.Locks.{lock_in}
use Rattle.tc_context.specs.View.{PackageView, AllowsPending, bare, fits_of, number_in, with_seal}
use Rattle.tc_context.specs.Ran.{DidRun}
use Rattle.tc_law.specs.History.{Follows, StateFollows}
use Rattle.tc_queue.specs.Asked.{Ask, IsFound, answered}
use Rattle.tc_hall.specs.declared.place.TheConstants.{DONE}
use Rattle.tc_hall.specs.declared.place.Place.{Place}
use Rattle.tc_hall.specs.declared.place.Place.TheVariants.{Waiting}
use Rattle.tc_hall.specs.declared.board.Given.{Given}
use Rattle.tc_hall.specs.declared.board.HallTerms.{HallTerms}
use Rattle.tc_hall.specs.declared.board.Knows.{Knows}
use Rattle.tc_hall.specs.declared.board.PassCall.{PassCall}
use Rattle.tc_hall.specs.declared.board.PassCall.TheVariants.{Put, Claim, Commit, Take, Free, Line, Look, Stop, Stopped}
use Rattle.tc_hall.specs.declared.board.Cargo.{Cargo}
use Rattle.tc_hall.specs.declared.board.Cargo.TheVariants.{Package, Lock}
use Rattle.tc_hall.specs.Places.{code_of, place_of, slot_word}
use Rattle.tc_hall.specs.Rule.{Has, HasLock, IsInOrder, grants_adopted, is_pinned, last_by, locked_in, clean, threads}
use Rattle.tc_hall.specs.Outs.{outs, erase, Pack, Loose, IsOut, CameOut, Called}
use Rattle.tc_hall.specs.PassView.{HallView, PassView}

abbrev pub At : Type 0
At = Step (Option Cargo)

abbrev pub Sat : Type 0
Sat = Me (Option Cargo) Knows

abbrev pub IsSamePass : PassView → PassView → Type 0
IsSamePass p q = (q.table ≡ p.table) × (q.seat ≡ p.seat)

-- the effects on the pass: of `claim` and `adopt`

-- what is out after these locks came or changed
abbrev pub or_kept : Option LockView → Option LockView → Option LockView
or_kept old None = old
or_kept old (Some l) = Some (kept l)

abbrev pub add_all : List (Option LockView) → List (Option LockView) → List (Option LockView)
add_all [] slots = []
add_all (x ∷ xs) [] = x ∷ xs
add_all (x ∷ xs) (o ∷ slots) = or_kept x o ∷ add_all xs slots

-- with the package q and all its locks
abbrev pub with_package_out : Knows → PackageView → Knows
with_package_out v q = record v { packages = slice_set v.packages q.context.thread (Some (bare q)); locks = add_all v.locks q.context.locks }

-- the lock that is granted, with its kind and the number of its queue turn
abbrev pub given_of : PackageView → Option Given
given_of q = option_map (λ (g : Grant). record { lock = g.lock; kind = g.kind; number = number_in q g.lock }) q.granted

-- for each lock the number of the queue turn with which it came, if it is in the package
abbrev pub came_with : PackageView → List (Option ℕ)
came_with q = map (λ i. option_map (λ (l : LockView). number_in q i) (lock_in q.context.locks i)) (range_with_len 0 (length q.context.locks))

-- how a waiter gets the lock, by the batch rule, after its last block
abbrev pub passed_after : LockView → Option Block → Kind
passed_after l None = Granted
passed_after l (Some b) = if may_adopt b l.number (run_of l.number (blocks_of l)) l.journal.limit then Adopted else Granted

abbrev pub passed_kind : LockView → Kind
passed_kind l = passed_after l (last_of (blocks_of l))

-- how one that waits at this place gets the lock from the pass, if that has it
abbrev pub kind_passed : Knows → Place → Option Kind
kind_passed v (Waiting i) = option_map passed_kind (slice_index_or v.locks i None)
kind_passed v place = None

-- the call that takes the package, where the word of its thread was this
abbrev pub claim_call : Knows → PackageView → ℕ → PassCall
claim_call v q word = Claim q.context.thread (place_of word) (came_with q) (given_of q) q.turns (kind_passed v (place_of word))

abbrev pub after_claim : Knows → ℕ → PackageView → Knows
after_claim v word q = record (with_package_out v q) { pinned = slice_set v.pinned q.context.thread (is_pinned q); claimed = v.claimed ++ q ∷ []; calls = v.calls ++ claim_call v q word ∷ [] }

-- of `commit`, where the block b was sealed and the package is then q
abbrev pub after_seal : Knows → Block → PackageView → Knows
after_seal v b q = record (with_package_out v q) { sealed = v.sealed ++ b ∷ []; calls = v.calls ++ Commit q.context.thread b ∷ [] }

-- of `put`

abbrev pub or_none : Option LockView → Option LockView → Option LockView
or_none old None = old
or_none old (Some l) = None

abbrev pub remove_all : List (Option LockView) → List (Option LockView) → List (Option LockView)
remove_all [] slots = []
remove_all (x ∷ xs) [] = x ∷ xs
remove_all (x ∷ xs) (o ∷ slots) = or_none x o ∷ remove_all xs slots

-- the numbers of the locks in a package, the least first
abbrev pub numbers : List (Option LockView) → List ℕ
numbers slots = filter (λ i. is_some (lock_in slots i)) (range_with_len 0 (length slots))

-- the call that puts the package at the place
abbrev pub put_call : PackageView → Place → PassCall
put_call q place = Put q.context.thread place (numbers q.context.locks) (given_of q) q.turns

abbrev pub after_put : Knows → PackageView → Place → Knows
after_put v q place =
    record v {
      packages = slice_set v.packages q.context.thread None;
      locks = remove_all v.locks q.context.locks;
      calls = v.calls ++ put_call q place ∷ [];
    }

-- of `take` and `free`
abbrev pub after_take : Knows → LockView → Knows
after_take v l = record v { locks = slice_set v.locks l.number (Some (kept l)); taken = v.taken ++ l ∷ []; calls = v.calls ++ Take l.number ∷ [] }

abbrev pub after_free : Knows → LockView → Knows
after_free v l = record v { locks = slice_set v.locks l.number None; calls = v.calls ++ Free l.number ∷ [] }

-- of a compare-and-swap that fails
abbrev pub after_miss : Knows → ℕ → ℕ → Knows
after_miss v word found = record v { missed = v.missed ++ record { word = word; found = found } ∷ [] }

-- of `look`, `stop` and `stopped`
abbrev pub with_call : Knows → PassCall → Knows
with_call v c = record v { calls = v.calls ++ c ∷ [] }

abbrev pub after_look : Knows → ℕ → ℕ → Knows
after_look v t word = with_call v (Look t word)

abbrev pub after_stop : Knows → Knows
after_stop v = with_call v Stop

abbrev pub after_stopped : Knows → ℕ → Knows
after_stopped v word = with_call v (Stopped word)

-- of the making of a pass, and of `join`
abbrev pub dealt : Knows → Knows
dealt v = record v { made = v.made + 1 }

abbrev pub fresh : Knows → Knows
fresh v = clean v.image (length v.packages) (length v.locks) v.made false

abbrev pub merged : Knows → Knows → Knows
merged v w = record v { joined = v.joined ++ w.worker ∷ w.joined; sealed = v.sealed ++ w.sealed; calls = v.calls ++ w.calls; missed = v.missed ++ w.missed; claimed = v.claimed ++ w.claimed; taken = v.taken ++ w.taken }

-- a pass that was joined into another
abbrev pub gone : Knows
gone = record { image = record { ranges = []; entries = []; guards = [] }; worker = 0; maker = false; made = 0; spent = true; joined = []; packages = []; pinned = []; locks = []; open_slot = None; sealed = []; calls = []; missed = []; claimed = []; taken = [] }

-- the clauses of the calls

-- the package q of thread t was taken out of its slot; its thread's word was this
pub record Gets (word t : ℕ) (q : PackageView) (v w : Knows) : Type 0 where
  pub now : w ≡ after_claim v word q
  pub thread : q.context.thread ≡ t
  pub of : q.image ≡ v.image
  pub settled : q.pending ≡ None
  pub order : IsInOrder word q
  pub fits : grants_adopted q.granted ≡ false → (worker : ℕ) → fits_of q worker ≡ true
  -- one that is pinned to one worker is recorded as such
  pub pinned : is_pinned q ≡ true → get_elem? w.pinned t ≡ some true
  pub came : CameOut (Pack q) v w
  pub called : Called (claim_call v q word ∷ []) v w

-- the word had another value than expected
abbrev pub Missed : ℕ → ℕ → ℕ → Knows → Knows → Type 0
Missed wanted word found v w = (found ≢ wanted) × (w ≡ after_miss v word found)

-- the pass's list shows that a stop was made
pub data HasStop (v : Knows) : Type 0 where
  made : (i : ℕ) → get_elem? v.calls i ≡ some Stop → HasStop v
  seen : (i : ℕ) → get_elem? v.calls i ≡ some (Stopped 1) → HasStop v

-- the package may be put at this place
pub record MayPut (place : Place) (v : Knows) (q : PackageView) : Type 0 where
  pub has : Has v q.context.thread (bare q)
  pub locks : (i : ℕ) (l : LockView) → locked_in q i ≡ Some l → HasLock v i (kept l)
  pub order : IsInOrder (code_of place) q
  pub stop : is_pinned q ≡ true → HasStop v
  pub fits : grants_adopted q.granted ≡ false → fits_of q v.worker ≡ true

-- the package was put at the place
pub record Gave (place : Place) (q : PackageView) (v w : Knows) : Type 0 where
  pub now : w ≡ after_put v q place
  pub rest : outs w ≡ erase (outs v) (Pack q)
  pub called : Called (put_call q place ∷ []) v w

-- the package and the lock states in it are as a history leaves them that is a trace, obeys the
-- batch limit, and has each block that the pass has sealed
pub record IsAsLeft (k : HallTerms) (v : Knows) (q : PackageView) : Type 0 where
  pub history : List Block
  pub tells : Tells k.image.value k.fuel history (end_after k.image.value k.fuel history)
  pub obeys : (i : ℕ) → Obeys i k.limit (of_lock history i)
  pub follows : Follows k.image.value k.fuel k.limit history (end_after k.image.value k.fuel history) q
  pub sealed : (i : ℕ) (b : Block) → get_elem? v.sealed i ≡ some b → get_elem? history b.stamp ≡ some b

-- the state of lock i is as such a history leaves it
pub record IsStateAsLeft (k : HallTerms) (v : Knows) (i : ℕ) (l : LockView) : Type 0 where
  pub history : List Block
  pub tells : Tells k.image.value k.fuel history (end_after k.image.value k.fuel history)
  pub obeys : (j : ℕ) → Obeys j k.limit (of_lock history j)
  pub follows : StateFollows k.image.value k.fuel k.limit history (end_after k.image.value k.fuel history) i l
  pub sealed : (j : ℕ) (b : Block) → get_elem? v.sealed j ≡ some b → get_elem? history b.stamp ≡ some b

-- the state of lock i was taken out of its slot
pub record Takes (i : ℕ) (l : LockView) (v w : Knows) : Type 0 where
  pub now : w ≡ after_take v l
  pub rest : IsAtRest v.image i l
  pub came : CameOut (Loose l) v w
  pub called : Called (Take l.number ∷ []) v w

pub record MayFree (v : Knows) (l : LockView) : Type 0 where
  pub has : HasLock v l.number (kept l)
  pub rests : EndsSection l.number l

pub record Freed (l : LockView) (v w : Knows) : Type 0 where
  pub now : w ≡ after_free v l
  pub rest : outs w ≡ erase (outs v) (Loose l)
  pub called : Called (Free l.number ∷ []) v w

-- a lock that was granted as Adopted was unlocked by this block
abbrev pub IsGrantedBehind : Option Block → Option Grant → Type 0
IsGrantedBehind last None = Unit {0}
IsGrantedBehind last (Some g) = is_adopted g.kind ≡ true → has_unlocked g.lock last ≡ true

-- the pending block, if it began an Adopted section of a lock, comes right after a block of the
-- pass's worker that unlocked the lock
abbrev pub HandsPending : Knows → PackageView → Type 0
HandsPending v q = (b : Block) → q.pending ≡ Some b → IsHandedOver (last_by v) b

-- a block made the package of one that the pass has out, the batch rule allows it the pass's worker, and it
-- follows the block by which that worker handed the lock over; after a cut, worker and thread go on together
pub record Seals (v : Knows) (q : PackageView) : Type 0 where
  pub before : PackageView
  pub has : Has v q.context.thread (bare before)
  pub locks : (i : ℕ) (l : LockView) → locked_in before i ≡ Some l → HasLock v i (kept l)
  pub ran : DidRun v.image before q
  pub allows : AllowsPending q v.worker
  pub handed : HandsPending v q
  pub together : AreTogether (last_by v) (last_of before.log)

-- its block got the stamp n
pub record DidSeal (q : PackageView) (n : ℕ) (v w : Knows) : Type 0 where
  pub block : Block
  pub pending : q.pending ≡ Some block
  pub now : w ≡ after_seal v (sealed_block n v.worker block) (with_seal n v.worker q)
  -- it is out in that state, and nothing else that is out changed
  pub out : IsOut (outs w) (Pack (with_seal n v.worker q))
  pub rest : erase (outs w) (Pack (with_seal n v.worker q)) ≡ erase (outs v) (Pack q)
  pub after_own : (i : ℕ) (b : Block) → get_elem? v.sealed i ≡ some b → b.stamp < n
  -- each other block in its log and in its locks has a lower stamp
  pub after_log : (i : ℕ) (b : Block) → get_elem? (with_seal n v.worker q).log i ≡ some b → (b.stamp < n) ⊎ (b ≡ sealed_block n v.worker block)
  pub after_locks : (k : ℕ) (l : LockView) (i : ℕ) (b : Block) → locked_in (with_seal n v.worker q) k ≡ Some l → get_elem? (blocks_of l) i ≡ some b → (b.stamp < n) ⊎ (b ≡ sealed_block n v.worker block)

-- what each step on the table says

-- the package of thread t was taken, and the pass has its slot; in a hall of these terms, if they
-- were given, it is as the history leaves it
abbrev pub Got : Option HallTerms → ℕ → ℕ → Sat → Sat → Type 0
Got o word t m m' = (q : PackageView) × (w : Knows) × Gets word t q m.0 w × (m' ≡ (record w { open_slot = Some t }, (t, Some (Package q)) ∷ m.1)) × ((k : HallTerms) → o ≡ Some k → IsAsLeft k m.0 q)

abbrev pub claimed : Option HallTerms → At → Sat → ℕ → Sat → Type 0
claimed o st m r m' = (r ≡ st.first → (t : ℕ) → st.word ≡ slot_word t → Got o st.first t m m') × (r ≢ st.first → m' ≡ (after_miss m.0 st.word r, m.1))

-- the same of the state of lock i, in a hall of these terms
abbrev pub Took : HallTerms → ℕ → ℕ → Sat → Sat → Type 0
Took k i slot m m' = (l : LockView) × (w : Knows) × Takes i l m.0 w × (m' ≡ (record w { open_slot = Some slot }, (slot, Some (Lock l)) ∷ m.1)) × IsStateAsLeft k m.0 i l

abbrev pub took_as : Option HallTerms → At → Sat → ℕ → Sat → Type 0
took_as o st m r m' = (r ≡ st.first → (k : HallTerms) (i slot : ℕ) → o ≡ Some k → slot ≡ threads k + i → st.word ≡ slot_word slot → Took k i slot m m') × (r ≢ st.first → m' ≡ (after_miss m.0 st.word r, m.1))

abbrev pub laid : At → Sat → ℕ → Sat → Type 0
laid st m r m' = m' ≡ (record m.0 { open_slot = None }, rest m.1)

abbrev pub reached : At → Sat → ℕ → Sat → Type 0
reached st m r m' = (slot : ℕ) → st.word ≡ slot_word slot → m' ≡ (record m.0 { open_slot = Some slot }, (slot, None) ∷ m.1)

-- the package was put, in a hall of these terms, if they were given
abbrev pub put_as : Option HallTerms → At → Sat → ℕ → Sat → Type 0
put_as o st m r m' = (t : ℕ) (q : PackageView) → m.1 ≡ (t, Some (Package q)) ∷ [] → (m' ≡ (record (after_put m.0 q (place_of st.first)) { open_slot = None }, [])) × ((k : HallTerms) → o ≡ Some k → IsAsLeft k m.0 q)

abbrev pub did_free : At → Sat → ℕ → Sat → Type 0
did_free st m r m' = (slot : ℕ) (l : LockView) → m.1 ≡ (slot, Some (Lock l)) ∷ [] → m' ≡ (record (after_free m.0 l) { open_slot = None }, [])

abbrev pub looked : At → Sat → ℕ → Sat → Type 0
looked st m r m' = (t : ℕ) → st.word ≡ slot_word t → m' ≡ (with_call m.0 (Look t r), m.1)

-- a call on the line of lock i, in a hall of n threads
abbrev pub lined : ℕ → ℕ → Ask → At → Sat → ℕ → Sat → Type 0
lined n i ask st m r m' = (m' ≡ (with_call m.0 (Line i (answered ask r)), m.1)) × IsFound n ask r

abbrev pub stopping : At → Sat → ℕ → Sat → Type 0
stopping st m r m' = m' ≡ (with_call m.0 Stop, m.1)

-- a pass that took a package which is pinned to one worker sees the stop
abbrev pub saw_stopped : At → Sat → ℕ → Sat → Type 0
saw_stopped st m r m' = (m' ≡ (with_call m.0 (Stopped r), m.1)) × ((t : ℕ) → get_elem? m.0.pinned t ≡ some true → r ≡ 1)

-- the package whose block is sealed, if one was given
abbrev pub sealed_as : Option PackageView → At → Sat → ℕ → Sat → Type 0
sealed_as o st m r m' = (q : PackageView) → o ≡ Some q → DidSeal q r m.0 m'.0 × (m'.1 ≡ m.1)

-- creation and end

-- the pass of a worker, which has done nothing
pub record IsNew (image : Shown) (n m worker : ℕ) (v : Knows) : Type 0 where
  pub of : v.image ≡ image
  pub now : v ≡ record (clean v.image n m worker v.maker) { made = v.made }

-- nothing is out with the pass
pub record IsFree (v : Knows) : Type 0 where
  pub packages : (t : ℕ) (p : PackageView) → ¬ Has v t p
  pub locks : (i : ℕ) (l : LockView) → ¬ HasLock v i l

-- the pass has read 2, DONE, of each thread
abbrev pub HasSeenAll : ℕ → Knows → Type 0
HasSeenAll n v = (t : ℕ) → t < n → (i : ℕ) × (get_elem? v.calls i ≡ some (Look t DONE))

-- each worker is the pass's own or was joined
abbrev pub HasAll : ℕ → Knows → Type 0
HasAll workers v = (u : ℕ) → u < workers → (u ≡ v.worker) ⊎ ((e : ℕ) × (get_elem? v.joined e ≡ some u))

-- the pass is the last of its hall: each other was joined into it, and nothing is out
pub record IsLast (hall : HallView) (p : PassView) : Type 0 where
  pub own : p.table ≡ hall.table
  pub all : HasAll hall.terms.workers p.knows
  pub free : IsFree p.knows

-- what is in a slot
abbrev pub IsPackage : Option Cargo → Type 0
IsPackage x = (q : PackageView) × (x ≡ Some (Package q))

abbrev pub HoldsPackage : Option Cargo → PackageView → Type 0
HoldsPackage x q = x ≡ Some (Package q)

abbrev pub HoldsLock : Option Cargo → LockView → Type 0
HoldsLock x l = x ≡ Some (Lock l)

abbrev pub IsLock : Option Cargo → Type 0
IsLock x = (l : LockView) × (x ≡ Some (Lock l))

-- the stop word was read, as 1 or not; it was 1 if the pass took a package that is pinned to one worker
pub record SawStopped (yes : Bool) (v w : Knows) : Type 0 where
  pub word : ℕ
  pub now : w ≡ after_stopped v word
  pub one : yes ≡ true → word ≡ 1
  pub other : yes ≡ false → word ≢ 1
  pub pinned : (t : ℕ) → get_elem? v.pinned t ≡ some true → yes ≡ true
