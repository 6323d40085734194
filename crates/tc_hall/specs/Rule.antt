-- The invariant of the table in parts: where packages, lock states and passes are, what words and history say.
use Rattle.std.specs.Prelude.{◌≡◌, ◌≢◌, ◌⊎◌, ℕ, ◌+◌, ◌-◌, ◌*◌, ◌<◌, ◌≤◌, if◌then◌else◌, Bool, true, false, List, [], length, replicate, slice_index, Option, Some, None}
use mathlib.Core.Option.{some, none}
use mathlib.Core.Option as maybe
use lib.ListN.{get_elem?}
use Rattle.atomic_table.specs.Table.{State}
use Rattle.tc_isa.specs.Sets.{has}
use Rattle.tc_isa.specs.declared.limits.TheConstants.{MAX_FUEL, MAX_WORKERS}
use Rattle.tc_elf.specs.Shown.{Shown}
use Rattle.tc_elf.specs.declared.limits.TheConstants.{MAX_THREADS, MAX_GUARDS}
use Rattle.tc_journal.specs.Batch.{last_of}
use Rattle.tc_journal.specs.Handing.{of_worker, Delegates}
use Rattle.tc_journal.specs.declared.block.Block.{Block}
use Rattle.tc_turn.specs.Turn.{is_running}
use Rattle.tc_segment.specs.View.{LockView, kept, EndsSection}
use Rattle.tc_context.specs.declared.package.Grant.{Grant}
pub use Rattle.tc_context.specs.View.{grants_adopted, is_pinned}
use Rattle.tc_context.specs.Locks.{lock_in}
use Rattle.tc_context.specs.View.{PackageView, bare, fits_of, granted_lock, want_of}
use Rattle.tc_law.specs.Lawful.{Lawful, AreStrict}
use Rattle.tc_hall.specs.declared.board.TheConstants.{CLOCK, STOP}
use Rattle.tc_hall.specs.Places.{slot_word}
use Rattle.tc_hall.specs.declared.place.TheConstants.{READY, DONE, WAITING, OUT}
use Rattle.tc_hall.specs.declared.board.Knows.{Knows}
use Rattle.tc_hall.specs.declared.board.HallTerms.{HallTerms}
use Rattle.tc_hall.specs.declared.board.PassCall.TheVariants.{Look, Stop, Stopped}
use Rattle.tc_hall.specs.declared.board.Cargo.{Cargo}
use Rattle.tc_hall.specs.declared.board.Cargo.TheVariants.{Package, Lock}

abbrev pub threads : HallTerms → ℕ
threads k = length k.image.value.entries

abbrev pub locks : HallTerms → ℕ
locks k = length k.image.value.guards

-- the number of the words: those of the clock, the stop and the slots, and where the hall has lines
-- two places more for each lock, one of its tail and one of its links
abbrev pub line_places : HallTerms → ℕ
line_places k = if k.lined then 2 * locks k else 0

abbrev pub words_of : HallTerms → ℕ
words_of k = slot_word (threads k + locks k + line_places k)

-- the pass of a worker with nothing out
abbrev pub clean : Shown → ℕ → ℕ → ℕ → Bool → Knows
clean image n m worker maker =
    record { image = image; worker = worker; maker = maker; made = 0; spent = false; joined = []; packages = replicate n None; pinned = replicate n false; locks = replicate m None; open_slot = None; sealed = []; calls = []; missed = []; claimed = []; taken = [] }

abbrev pub starting : HallTerms → Knows
starting k = clean k.image.value (threads k) (locks k) (k.workers - 1) true

abbrev pub Homes : Type 0
Homes = List (maybe.Option (Option Cargo))

-- the pass has the package of thread t out, which it records as p
abbrev pub Has : Knows → ℕ → PackageView → Type 0
Has v t p = get_elem? v.packages t ≡ some (Some p)

-- the pass has lock i out, as l
abbrev pub HasLock : Knows → ℕ → LockView → Type 0
HasLock v i l = get_elem? v.locks i ≡ some (Some l)

abbrev pub locked_in : PackageView → ℕ → Option LockView
locked_in q i = lock_in q.context.locks i

-- the lock i is held or granted
abbrev pub IsOwn : PackageView → ℕ → Type 0
IsOwn q i = (has q.context.guest.held i ≡ true) ⊎ (granted_lock q.granted ≡ Some i)

-- a package may be in its slot in this state while its thread's word is this
pub record IsInOrder (word : ℕ) (q : PackageView) : Type 0 where
  pub ended : word ≡ DONE → (is_running q.context.guest.status ≡ false) × ((i : ℕ) → locked_in q i ≡ None)
  pub runs : word ≢ DONE → is_running q.context.guest.status ≡ true
  pub own : (i : ℕ) (l : LockView) → locked_in q i ≡ Some l → IsOwn q i
  pub waits : (i : ℕ) → word ≡ WAITING + i → want_of q.image q.context ≡ Some i
  pub ready : (g : Grant) → q.granted ≡ Some g → word ≡ READY

-- it is pinned to one worker only after a stop, and a grant that isn't Adopted fits every worker
pub record FitsAll (word : ℕ) (q : PackageView) : Type 0 where
  pub stop : is_pinned q ≡ true → word ≡ 1
  pub fits : grants_adopted q.granted ≡ false → (worker : ℕ) → fits_of q worker ≡ true

-- a package in its slot
pub record IsHome (ws : List ℕ) (hs : Homes) (t : ℕ) (p : PackageView) : Type 0 where
  pub context : PackageView
  pub slot : get_elem? hs t ≡ some (some (Some (Package context)))
  pub same : bare context ≡ p
  pub word : slice_index ws (slot_word t) < OUT
  pub order : IsInOrder (slice_index ws (slot_word t)) context
  pub fits : FitsAll (slice_index ws STOP) context

-- a package that is out with the pass id
pub record IsPackageOut (ws : List ℕ) (hs : Homes) (vs : List Knows) (t : ℕ) (p : PackageView) (id : ℕ) : Type 0 where
  pub view : Knows
  pub pass : get_elem? vs id ≡ some view
  pub has : Has view t p
  pub word : slice_index ws (slot_word t) ≡ OUT + view.worker
  pub slot : view.open_slot ≢ Some t → get_elem? hs t ≡ some (some None)
  pub held : view.open_slot ≡ Some t → get_elem? hs t ≡ some none

abbrev pub Lies : List ℕ → Homes → List Knows → ℕ → PackageView → maybe.Option ℕ → Type 0
Lies ws hs vs t p none = IsHome ws hs t p
Lies ws hs vs t p (some id) = IsPackageOut ws hs vs t p id

-- each package is in its slot or out in one pass
pub record ArePlaced (n : ℕ) (places : List PackageView) (ws : List ℕ) (hs : Homes) (vs : List Knows) : Type 0 where
  pub holder : ℕ → maybe.Option ℕ
  pub each : (t : ℕ) (p : PackageView) → get_elem? places t ≡ some p → Lies ws hs vs t p (holder t)
  pub sized : (id : ℕ) (v : Knows) → get_elem? vs id ≡ some v → v.spent ≡ false → length v.packages ≡ n
  pub owned : (id : ℕ) (v : Knows) (t : ℕ) (p : PackageView) → get_elem? vs id ≡ some v → Has v t p → (holder t ≡ some id) × (get_elem? places t ≡ some p)

-- where a lock is: in its slot, inside the package of a thread that is in its slot, or out with a pass
pub data Spot : Type 0 where
  home : Spot
  inside : ℕ → Spot
  out : ℕ → Spot

pub record IsLockHome (n : ℕ) (ws : List ℕ) (hs : Homes) (i : ℕ) (l : LockView) : Type 0 where
  pub segment : LockView
  pub slot : get_elem? hs (n + i) ≡ some (some (Some (Lock segment)))
  pub same : kept segment ≡ l
  pub word : slice_index ws (slot_word (n + i)) ≡ 0
  pub rests : EndsSection i segment

pub record IsInside (n : ℕ) (ws : List ℕ) (hs : Homes) (i : ℕ) (l : LockView) (t : ℕ) : Type 0 where
  pub below : t < n
  pub context : PackageView
  pub slot : get_elem? hs t ≡ some (some (Some (Package context)))
  pub segment : LockView
  pub has : locked_in context i ≡ Some segment
  pub same : kept segment ≡ l
  pub word : slice_index ws (slot_word (n + i)) ≡ 1
  pub empty : get_elem? hs (n + i) ≡ some (some None)

pub record IsLockOut (n : ℕ) (ws : List ℕ) (hs : Homes) (vs : List Knows) (i : ℕ) (l : LockView) (id : ℕ) : Type 0 where
  pub view : Knows
  pub pass : get_elem? vs id ≡ some view
  pub has : HasLock view i l
  pub word : slice_index ws (slot_word (n + i)) ≡ 1
  pub empty : view.open_slot ≢ Some (n + i) → get_elem? hs (n + i) ≡ some (some None)
  pub held : view.open_slot ≡ Some (n + i) → get_elem? hs (n + i) ≡ some none

abbrev pub LiesLock : ℕ → List ℕ → Homes → List Knows → ℕ → LockView → Spot → Type 0
LiesLock n ws hs vs i l home = IsLockHome n ws hs i l
LiesLock n ws hs vs i l (inside t) = IsInside n ws hs i l t
LiesLock n ws hs vs i l (out id) = IsLockOut n ws hs vs i l id

-- each lock is in its slot, in one package, or out in one pass
pub record AreLocksPlaced (n m : ℕ) (segments : List LockView) (ws : List ℕ) (hs : Homes) (vs : List Knows) : Type 0 where
  pub spot : ℕ → Spot
  pub each : (i : ℕ) (l : LockView) → get_elem? segments i ≡ some l → LiesLock n ws hs vs i l (spot i)
  pub sized : (id : ℕ) (v : Knows) → get_elem? vs id ≡ some v → v.spent ≡ false → length v.locks ≡ m
  pub owned : (id : ℕ) (v : Knows) (i : ℕ) (l : LockView) → get_elem? vs id ≡ some v → HasLock v i l → (spot i ≡ out id) × (get_elem? segments i ≡ some l)
  pub packed : (t : ℕ) (q : PackageView) (i : ℕ) (l : LockView) → t < n → get_elem? hs t ≡ some (some (Some (Package q))) → locked_in q i ≡ Some l → (spot i ≡ inside t) × (get_elem? segments i ≡ some (kept l))

-- what a pass records of the history and of the words is true
pub record IsPass (image : Shown) (workers : ℕ) (h : List Block) (ws : List ℕ) (v : Knows) : Type 0 where
  pub of : v.spent ≡ false → v.image ≡ image
  pub worker : v.worker < workers
  pub joined : (i w : ℕ) → get_elem? v.joined i ≡ some w → w < workers
  pub sealed : (i : ℕ) (b : Block) → get_elem? v.sealed i ≡ some b → get_elem? h b.stamp ≡ some b
  pub done : (i t : ℕ) → t < length image.entries → get_elem? v.calls i ≡ some (Look t DONE) → slice_index ws (slot_word t) ≡ DONE
  pub stop : (i : ℕ) → get_elem? v.calls i ≡ some Stop → slice_index ws STOP ≡ 1
  pub stopped : (i : ℕ) → get_elem? v.calls i ≡ some (Stopped 1) → slice_index ws STOP ≡ 1
  pub pinned : (t : ℕ) → get_elem? v.pinned t ≡ some true → slice_index ws STOP ≡ 1
  pub sized : v.spent ≡ false → length v.pinned ≡ length image.entries

-- the stop word is 1 only if some pass made a stop
pub record HasStopped (vs : List Knows) : Type 0 where
  pub id : ℕ
  pub view : Knows
  pub pass : get_elem? vs id ≡ some view
  pub place : ℕ
  pub call : get_elem? view.calls place ≡ some Stop

-- live passes have different workers, which no list of joined ones has
pub record AreApart (vs : List Knows) : Type 0 where
  pub apart : (i j : ℕ) (v w : Knows) → get_elem? vs i ≡ some v → get_elem? vs j ≡ some w → v.spent ≡ false → w.spent ≡ false → v.worker ≡ w.worker → i ≡ j
  pub joined : (i j e : ℕ) (v w : Knows) → get_elem? vs i ≡ some v → get_elem? vs j ≡ some w → w.spent ≡ false → ¬ (get_elem? v.joined e ≡ some w.worker)
  pub maker : (i j : ℕ) (v w : Knows) → get_elem? vs i ≡ some v → get_elem? vs j ≡ some w → v.maker ≡ true → w.spent ≡ false → i ≢ j → w.worker < v.made
  pub fresh : (i j e u : ℕ) (v w : Knows) → get_elem? vs i ≡ some v → v.maker ≡ true → get_elem? vs j ≡ some w → get_elem? w.joined e ≡ some u → (u < v.made)
  pub sole : (i j : ℕ) (v w : Knows) → get_elem? vs i ≡ some v → get_elem? vs j ≡ some w → v.maker ≡ true → w.maker ≡ true → i ≡ j
  pub spent : (i : ℕ) (v : Knows) → get_elem? vs i ≡ some v → v.spent ≡ true → v.locks ≡ []

-- the last block of its own worker in the pass's list
abbrev pub last_by : Knows → Option Block
last_by v = last_of (of_worker v.sealed v.worker)

-- what the passes' lists and numbers say of the history: the last block that a live pass lists of
-- its worker is that worker's last; a pass lists only blocks of its worker and of those that were
-- joined into it; and each block is of the pass that makes the others, or of one that it has made
pub record AreListed (h : List Block) (vs : List Knows) : Type 0 where
  pub newest : (id : ℕ) (v : Knows) → get_elem? vs id ≡ some v → v.spent ≡ false → last_of (of_worker h v.worker) ≡ last_by v
  pub owned : (id i : ℕ) (v : Knows) (b : Block) → get_elem? vs id ≡ some v → get_elem? v.sealed i ≡ some b → (b.worker ≡ v.worker) ⊎ ((e : ℕ) × (get_elem? v.joined e ≡ some b.worker))
  pub made : (id i : ℕ) (v : Knows) (b : Block) → get_elem? vs id ≡ some v → v.maker ≡ true → get_elem? h i ≡ some b → (b.worker ≡ v.worker) ⊎ (b.worker < v.made)

-- the limits of a hall
pub record IsInLimits (k : HallTerms) : Type 0 where
  pub threads : threads k ≤ MAX_THREADS
  pub locks : locks k ≤ MAX_GUARDS
  pub fuel : k.fuel ≤ MAX_FUEL
  pub workers : (0 < k.workers) × (k.workers ≤ MAX_WORKERS)

-- the history, and each package and lock as of its last commit, with strict journals. Each worker
-- begins an Adopted section right after its block that unlocked the lock, and a cut separates no
-- thread from its worker. It has no word, slot or pass, and only a commit changes it
pub record Told (k : HallTerms) : Type 0 where
  pub history : List Block
  pub places : List PackageView
  pub segments : List LockView
  pub limits : IsInLimits k
  pub law : Lawful k.image.value k.fuel k.limit history places segments
  pub strict : AreStrict segments
  pub workers : (i : ℕ) (b : Block) → get_elem? history i ≡ some b → b.worker < k.workers
  pub delegates : Delegates history

pub record KeptHall (k : HallTerms) (s : State (Option Cargo) Knows) : Type 0 where
  pub told : Told k
  pub words : length s.words ≡ words_of k
  pub slots : length s.homes ≡ threads k + locks k
  pub clock : slice_index s.words CLOCK ≡ length told.history
  pub placed : ArePlaced (threads k) told.places s.words s.homes s.views
  pub locks_placed : AreLocksPlaced (threads k) (locks k) told.segments s.words s.homes s.views
  pub passes : (id : ℕ) (v : Knows) → get_elem? s.views id ≡ some v → IsPass k.image.value k.workers told.history s.words v
  pub stop : slice_index s.words STOP ≡ 1 → HasStopped s.views
  pub apart : AreApart s.views
  pub listed : AreListed told.history s.views
