-- A package, as contracts see it, and what each keeps.
use Rattle.std.specs.Prelude.{◌≡◌, ◌≢◌, ℕ, ◌<◌, ◌≤◌, ◌-◌, Bool, true, false, not, ◌&&◌, ◌||◌, ◌==◌, List, [], ◌∷◌, set, length, replicate, slice_index_or, Option, Some, None, is_some, if◌then◌else◌}
use Rattle.std.specs.Option.{option_map}
use Rattle.tc_isa.specs.Registers.{Registers}
use Rattle.tc_isa.specs.Sets.{has, locks_of}
use Rattle.tc_isa.specs.declared.limits.TheConstants.{MAX_HELD, MAX_TURNS}
use Rattle.tc_isa.specs.declared.held.TheConstants.Held.{PLACES}
use Rattle.tc_elf.specs.Shown.{Shown}
use Rattle.tc_journal.specs.Batch.{is_adopted, is_section, begins, last_of, allows_of, may_go_on, ends_thread, ends_section, passes_to, passes_on}
use Rattle.tc_journal.specs.Handing.{was_cut}
use Rattle.tc_journal.specs.declared.block.Block.{Block}
use Rattle.tc_journal.specs.declared.block.End.TheVariants.{Wants, Unlocked, Cut}
use Rattle.tc_journal.specs.declared.block.Kind.{Kind}
use Rattle.tc_journal.specs.declared.block.Kind.TheVariants.{Start, On}
use Rattle.tc_turn.specs.Memory.{own_of}
use Rattle.tc_turn.specs.Turn.{is_running, next_lock, thread_at_start}
use Rattle.tc_turn.specs.declared.status.Status.{Status}
use Rattle.tc_turn.specs.declared.status.Status.TheVariants.{Running}
use Rattle.tc_segment.specs.View.{LockView, IsStrict, block_in, blocks_of, sealed_block, EndsSection}
use Rattle.tc_context.specs.declared.context.Context.{Context}
use Rattle.tc_context.specs.declared.package.Grant.{Grant}
use Rattle.tc_context.specs.declared.package.TheConstants.{MAX_NUMBER}
use Rattle.tc_context.specs.Locks.{lock_in, SameLocks, sealed_all}
use Rattle.tc_context.specs.Whole.{thread_in, set_of}

-- the thread and the locks that are in the package; the lock that was granted and isn't taken yet; the block that ran and
-- isn't sealed; the blocks that ran, with room for more; the queue turns: those of the grants, and how many were given
pub record PackageView : Type 0 where
  pub image : Shown
  pub context : Context
  pub granted : Option Grant
  pub pending : Option Block
  pub log : List Block
  pub log_room : ℕ
  pub numbers : List ℕ
  pub turns : ℕ
  pub slept : ℕ

-- the number of its thread, and the thread's registers, fuel, status, held set and own memory; the locks, by their numbers
abbrev pub thread_number : PackageView → ℕ
thread_number p = p.context.thread

abbrev pub regs_in : PackageView → Registers
regs_in p = p.context.guest.regs

abbrev pub fuel_in : PackageView → ℕ
fuel_in p = p.context.guest.fuel

abbrev pub status_in : PackageView → Status
status_in p = p.context.guest.status

abbrev pub held_in : PackageView → ℕ
held_in p = p.context.guest.held

abbrev pub own_in : PackageView → ℕ → Option ℕ
own_in p addr = own_of p.context.guest.own addr

abbrev pub locks_in : PackageView → List (Option LockView)
locks_in p = p.context.locks

abbrev pub granted_lock : Option Grant → Option ℕ
granted_lock None = None
granted_lock (Some g) = Some g.lock

-- a lock was granted as Adopted
abbrev pub grants_adopted : Option Grant → Bool
grants_adopted None = false
grants_adopted (Some g) = is_adopted g.kind

-- the package may go on at its worker alone: a lock was granted to it as Adopted, or its last block was cut
abbrev pub is_pinned : PackageView → Bool
is_pinned p = grants_adopted p.granted || was_cut (last_of p.log)

-- the lock that the next turn takes, where the thread runs and that turn is a lawful LOCK
abbrev pub want_of : Shown → Context → Option ℕ
want_of image p = if is_running p.guest.status then next_lock image (thread_in p) else None

-- the kind of the next block: that of the grant, where a lock is granted; else Start for the first, and On for the others
abbrev pub kind_of : Option Grant → List Block → Kind
kind_of (Some g) log = g.kind
kind_of None [] = Start
kind_of None (b ∷ log) = On

-- there is room for a block in the log, and in each lock for an entry with a word for each turn
pub record IsReserved (p : PackageView) : Type 0 where
  pub log : 0 < p.log_room
  pub entries : (k : ℕ) (l : LockView) → lock_in p.context.locks k ≡ Some l → 0 < l.journal.entry_room
  pub words : (k : ℕ) (l : LockView) → lock_in p.context.locks k ≡ Some l → MAX_TURNS ≤ l.journal.word_room

-- there is such a block, the pending one or the last, and this holds of it
abbrev pub HasBlock : (Block → Type 0) → Option Block → Type 0
HasBlock P None = ⊥
HasBlock P (Some b) = P b

-- a number of a queue turn
abbrev pub IsNumber : ℕ → Type 0
IsNumber n = (1 ≤ n) × (n ≤ MAX_NUMBER)

-- the number of the queue turn with which lock k came
abbrev pub number_in : PackageView → ℕ → ℕ
number_in p k = slice_index_or p.numbers k 0

-- lock n has this number now, and the others have what they had
abbrev pub IsNumbered : ℕ → ℕ → PackageView → PackageView → Type 0
IsNumbered n number old new = (k : ℕ) → number_in new k ≡ (if k == n then number else number_in old k)

-- a package in which nothing ran
pub record IsFresh (image : Shown) (t fuel : ℕ) (p : PackageView) : Type 0 where
  pub image_is : p.image ≡ image
  pub number : p.context.thread ≡ t
  pub thread : thread_in p.context ≡ thread_at_start image fuel t
  pub locks : (k : ℕ) → lock_in p.context.locks k ≡ None
  pub granted : p.granted ≡ None
  pub pending : p.pending ≡ None
  pub log : p.log ≡ []
  pub log_room : p.log_room ≡ 0
  pub numbers : p.numbers ≡ replicate PLACES 0
  pub turns : p.turns ≡ 0
  pub slept : p.slept ≡ 0

-- ---- what each package keeps

-- the block that a lock's journal has beside its sealed ones
abbrev pub waiting_in : Option Block → ℕ → Option Block
waiting_in None k = None
waiting_in (Some b) k = if has b.held k then Some b else None

-- lock k of a package in which no block is pending: it rests where the thread doesn't hold it; and where the last block had
-- it, that is its last one too, unless it was granted since
pub record IsIdle (p : PackageView) (k : ℕ) (l : LockView) : Type 0 where
  pub rests : has p.context.guest.held k ≡ false → EndsSection k l
  pub last : (b : Block) → last_of p.log ≡ Some b → has b.held k ≡ true → granted_lock p.granted ≢ Some k → last_of (blocks_of l) ≡ Some b

-- lock k of a package in which this block is pending: one that isn't of the block rests, one of it that the block didn't take
-- was in the middle of the thread's section, and a strict one that was passed on to the block was another thread's before
pub record IsPending (b : Block) (k : ℕ) (l : LockView) : Type 0 where
  pub rests : has b.held k ≡ false → EndsSection k l
  pub on : has b.held k ≡ true → begins k b ≡ false → may_go_on k (last_of (blocks_of l)) b.thread ≡ true
  pub passes : IsStrict l → has b.held k ≡ true → passes_on k (blocks_of l) b ≡ true

abbrev pub IsAt : Option Block → PackageView → ℕ → LockView → Type 0
IsAt None p k l = IsIdle p k l
IsAt (Some b) p k l = IsPending b k l

-- the lock state l has its place in the package as lock k: no entry is open, and all are sealed but that of the pending block
pub record IsStored (p : PackageView) (k : ℕ) (l : LockView) : Type 0 where
  pub number : l.number ≡ k
  pub known : k < length p.image.guards
  pub of : l.journal.image ≡ p.image
  pub turn : IsNumber (number_in p k)
  pub opened : l.journal.opened ≡ None
  pub closed : option_map block_in l.journal.closed ≡ waiting_in p.pending k
  pub at : IsAt p.pending p k l

-- the thread is as its block b left it: it runs unless the block ended it, is about to take the lock that the block's end
-- wants, takes none where the block was cut, and holds those locks of the block of which the block ended no section; a lock that
-- the end releases is the block's, which has no more locks than a thread may hold
pub record IsAfter (image : Shown) (p : Context) (b : Block) : Type 0 where
  pub thread : b.thread ≡ p.thread
  pub runs : is_running p.guest.status ≡ not (ends_thread b.end)
  pub next : (k : ℕ) → b.end ≡ Wants k → next_lock image (thread_in p) ≡ Some k
  pub cut : b.end ≡ Cut → next_lock image (thread_in p) ≡ None
  pub held : (k : ℕ) → has p.guest.held k ≡ (has b.held k && not (ends_section k b))
  pub released : (k : ℕ) → b.end ≡ Unlocked k → has b.held k ≡ true
  pub few : length (locks_of b.held) ≤ MAX_HELD

-- before its first block it runs, and holds nothing
pub record IsBefore (p : Context) : Type 0 where
  pub runs : p.guest.status ≡ Running
  pub held : (k : ℕ) → has p.guest.held k ≡ false

-- the thread is as the last block of its log left it
abbrev pub IsLeft : Shown → Context → Option Block → Type 0
IsLeft image p None = IsBefore p
IsLeft image p (Some b) = IsAfter image p b

-- the log ends with the block that isn't sealed
abbrev pub EndsWith : List Block → Option Block → Type 0
EndsWith log None = Unit {0}
EndsWith log (Some b) = last_of log ≡ Some b

-- a section of this kind may be the thread's next one of the lock: it is taken, or another thread had the lock before, or the
-- lock isn't strict
abbrev pub MayPassTo : LockView → Kind → ℕ → Type 0
MayPassTo l kind t = IsStrict l → passes_to (last_of (blocks_of l)) kind t ≡ true

-- the thread is about to take the lock that was granted, which is in the package, and was another thread's where it is strict
-- and was passed on
pub record IsGranted (image : Shown) (p : Context) (g : Grant) : Type 0 where
  pub next : next_lock image (thread_in p) ≡ Some g.lock
  pub here : set_of p g.lock ≡ true
  pub section : is_section g.kind ≡ true
  pub passes : (l : LockView) → lock_in p.locks g.lock ≡ Some l → MayPassTo l g.kind p.thread

abbrev pub MayTake : Shown → Context → Option Grant → Type 0
MayTake image p None = Unit {0}
MayTake image p (Some g) = IsGranted image p g

-- what each package keeps, wherever it is
pub record IsSoundPackage (p : PackageView) : Type 0 where
  pub few : length p.image.guards ≤ 32
  pub places : (length p.context.locks ≡ PLACES) × (length p.numbers ≡ PLACES)
  pub thread : p.context.thread < length p.image.entries
  pub held : (k : ℕ) → has p.context.guest.held k ≡ true → set_of p.context k ≡ true
  pub stored : (k : ℕ) (l : LockView) → lock_in p.context.locks k ≡ Some l → IsStored p k l
  pub left : IsLeft p.image p.context (last_of p.log)
  pub grant : MayTake p.image p.context p.granted
  pub log : EndsWith p.log p.pending
  pub alone : is_some p.pending ≡ true → p.granted ≡ None

-- the lock k is one that the thread may take: it runs and doesn't hold it
pub record IsWanted (p : PackageView) (k : ℕ) : Type 0 where
  pub runs : p.context.guest.status ≡ Running
  pub free : has p.context.guest.held k ≡ false
  pub known : k < length p.image.guards
  pub small : k < PLACES

-- so is the lock that it wants, where it wants one
abbrev pub WantIsLawful : PackageView → Type 0
WantIsLawful p = (k : ℕ) → want_of p.image p.context ≡ Some k → IsWanted p k

-- where nothing is pending or granted, the last block is the last sealed one of each lock that it had
abbrev pub LastIsSealed : PackageView → Type 0
LastIsSealed p = p.pending ≡ None → p.granted ≡ None → (b : Block) → last_of p.log ≡ Some b → (k : ℕ) (l : LockView) → lock_in p.context.locks k ≡ Some l → has b.held k ≡ true → last_of (blocks_of l) ≡ Some b

-- the lock that it wants, where it wants one, is granted to it
abbrev pub WantIsGranted : Shown → PackageView → Type 0
WantIsGranted image p = (k : ℕ) → want_of image p.context ≡ Some k → granted_lock p.granted ≡ Some k

-- the batch rule allows the section that the block began, with this worker
abbrev pub Allows : Context → Block → ℕ → Type 0
Allows p b worker = (k : ℕ) (l : LockView) → begins k b ≡ true → lock_in p.locks k ≡ Some l → allows_of k l.journal.limit (blocks_of l) b.kind worker ≡ true

abbrev pub AllowsPending : PackageView → ℕ → Type 0
AllowsPending p worker = (b : Block) → p.pending ≡ Some b → Allows p.context b worker

-- ---- what fits a worker

abbrev pub fits_in : Option LockView → ℕ → Kind → ℕ → Bool
fits_in None k kind worker = true
fits_in (Some l) k kind worker = allows_of k l.journal.limit (blocks_of l) kind worker

abbrev pub fits_granted : Context → Option Grant → ℕ → Bool
fits_granted p None worker = true
fits_granted p (Some g) worker = fits_in (lock_in p.locks g.lock) g.lock g.kind worker

-- whether a worker may run the next block: the lock that was granted allows the kind of its grant with it
abbrev pub fits_of : PackageView → ℕ → Bool
fits_of p worker = fits_granted p.context p.granted worker

-- ---- what the calls make of it

-- the package without its lock states, their turns, its grant and its rooms: as long as no block runs, nothing else changes
abbrev pub bare : PackageView → PackageView
bare p = record p {
  context = record { thread = p.context.thread; guest = p.context.guest; locks = [] };
  granted = None;
  log_room = 0;
  numbers = [];
  turns = 0;
}

-- the same package, but for rooms
pub record IsRoomier (old new : PackageView) : Type 0 where
  pub rest : bare new ≡ bare old
  pub granted : new.granted ≡ old.granted
  pub numbers : new.numbers ≡ old.numbers
  pub turns : new.turns ≡ old.turns
  pub locks : SameLocks old.context.locks new.context.locks

-- with this lock granted, in this way and under this number
abbrev pub with_grant : LockView → Kind → ℕ → PackageView → PackageView
with_grant lock kind number p = record p {
  context = record { thread = p.context.thread; guest = p.context.guest; locks = set p.context.locks lock.number (Some lock) };
  granted = Some (record { lock = lock.number; kind = kind });
  numbers = set p.numbers lock.number number;
}

-- without this lock
abbrev pub without_lock : ℕ → PackageView → PackageView
without_lock lock p = record p { context = record { thread = p.context.thread; guest = p.context.guest; locks = set p.context.locks lock None } }

-- with this many queue turns given
abbrev pub with_turns : ℕ → PackageView → PackageView
with_turns turns p = record p { turns = turns }

abbrev pub sealed_log : ℕ → ℕ → List Block → Option Block → List Block
sealed_log stamp worker log None = log
sealed_log stamp worker log (Some b) = set log (length log - 1) (sealed_block stamp worker b)

-- with the pending block sealed
abbrev pub with_seal : ℕ → ℕ → PackageView → PackageView
with_seal stamp worker p = record p {
  context = record { thread = p.context.thread; guest = p.context.guest; locks = sealed_all stamp worker p.context.locks };
  pending = None;
  log = sealed_log stamp worker p.log p.pending;
}

-- what a package asks of the lock that is granted to it: it wants that lock, and has none granted and no block pending
pub record IsWaiting (p : PackageView) (k : ℕ) : Type 0 where
  pub pending : p.pending ≡ None
  pub granted : p.granted ≡ None
  pub want : want_of p.image p.context ≡ Some k
  pub absent : lock_in p.context.locks k ≡ None
