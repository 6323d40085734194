-- What a pass knows of the line of each lock, as a function of its calls, and what each call asks of it in a hall with lines.
use Rattle.std.specs.Prelude.{◌≡◌, ◌≢◌, ◌⊎◌, ℕ, ◌+◌, ◌==◌, Bool, true, false, if◌then◌else◌, List, [], ◌∷◌, min, slice_index_or, Option, Some, None}
use Rattle.tc_isa.specs.Sets.{has}
use Rattle.tc_journal.specs.Batch.{ends_section, last_of}
use Rattle.tc_journal.specs.declared.block.Block.{Block}
use Rattle.tc_journal.specs.declared.block.End.TheVariants.{Slept}
use Rattle.tc_journal.specs.declared.block.Kind.{Kind}
use Rattle.tc_journal.specs.declared.block.Kind.TheVariants.{Taken}
use Rattle.tc_segment.specs.View.{LockView}
use Rattle.tc_context.specs.View.{PackageView, HasBlock, number_in, want_of}
use Rattle.tc_context.specs.declared.package.TheConstants.{MAX_NUMBER}
use Rattle.tc_queue.specs.declared.turn.Turn.{Turn}
use Rattle.tc_queue.specs.declared.turn.Entered.TheVariants.{First, Behind}
use Rattle.tc_queue.specs.declared.turn.Leave.TheVariants.{Left}
use Rattle.tc_queue.specs.declared.turn.QueueCall.{QueueCall}
use Rattle.tc_queue.specs.declared.turn.QueueCall.TheVariants.{Enter, Link, Next, Leave}
use Rattle.tc_hall.specs.declared.board.Given.{Given}
use Rattle.tc_hall.specs.declared.board.Knows.{Knows}
use Rattle.tc_hall.specs.declared.board.HallTerms.{HallTerms}
use Rattle.tc_hall.specs.declared.board.PassCall.{PassCall}
use Rattle.tc_hall.specs.declared.board.PassCall.TheVariants.{Claim, Commit, Free, Line, Put, Take}
use Rattle.tc_hall.specs.declared.place.Place.{Place}
use Rattle.tc_hall.specs.declared.place.Place.TheVariants.{Parked, Waiting}
use Rattle.tc_hall.specs.Rule.{Has, HasLock, locked_in}
use Rattle.tc_hall.specs.Steps.{HasStop, given_of}

-- how a pass stands at the line of a lock
pub data Standing : Type 0 where
  -- nothing in its hand is of this lock
  away : Standing
  -- the turn entered, behind nobody or behind this turn, and its package is in hand
  entered : Turn → Option Turn → Standing
  -- the lock was granted to the turn in this way, and is in its package
  granted : Turn → Kind → Standing
  -- the turn's thread holds the lock
  held : Turn → Standing
  -- the turn's thread has released it
  loose : Turn → Standing
  -- and this turn is the one behind
  followed : Turn → Turn → Standing
  -- or nobody is: the line is empty
  closed : Turn → Standing

-- ---- what a call makes of it

abbrev pub turn_by : ℕ → ℕ → Turn
turn_by t number = record { thread = t; number = number }

-- how the lock was granted, if it was
abbrev pub kind_at : ℕ → Option Given → Option Kind
kind_at i None = None
kind_at i (Some g) = if g.lock == i then Some g.kind else None

-- a lock in a package, with this turn: it was granted, or the thread holds it or has released it
abbrev pub stands_in : Turn → Bool → Option Kind → Standing
stands_in u holds (Some kind) = granted u kind
stands_in u true None = held u
stands_in u false None = loose u

abbrev pub past_passing : Option Kind → Standing → Standing
past_passing (Some kind) (followed own u) = granted u kind
past_passing kind s = s

-- a package was claimed that is not with the lock: the lock was passed on to it, if it waited for that
abbrev pub past_waiting : ℕ → Place → Option Kind → Standing → Standing
past_waiting i (Waiting j) kind s = if j == i then past_passing kind s else s
past_waiting i place kind s = s

abbrev pub past_claim : ℕ → ℕ → Place → Option ℕ → Option Given → Option Kind → Standing → Standing
past_claim i t place (Some number) given kind s = stands_in (turn_by t number) true (kind_at i given)
past_claim i t place None given kind s = past_waiting i place kind s

-- the package of thread t was put, with the turn u, if that is the thread's
abbrev pub without_turn : ℕ → Turn → Standing → Standing
without_turn t u s = if u.thread == t then away else s

abbrev pub past_put : ℕ → Standing → Standing
past_put t (entered u before) = without_turn t u (entered u before)
past_put t (granted u kind) = without_turn t u (granted u kind)
past_put t (held u) = without_turn t u (held u)
past_put t s = s

abbrev pub past_take : Standing → Standing
past_take (entered u None) = granted u Taken
past_take s = s

-- a block with the lock was sealed
abbrev pub past_section : Bool → Turn → Standing
past_section true u = loose u
past_section false u = held u

abbrev pub past_block : ℕ → Block → Standing → Standing
past_block i b (granted u kind) = past_section (ends_section i b) u
past_block i b (held u) = past_section (ends_section i b) u
past_block i b s = s

abbrev pub past_line : QueueCall → Standing → Standing
past_line (Enter u First) s = entered u None
past_line (Enter u (Behind before)) s = entered u (Some before)
past_line (Next own (Some u)) (loose w) = followed w u
past_line (Leave own Left) (loose w) = closed w
past_line c s = s

abbrev pub past : ℕ → PassCall → Standing → Standing
past i (Claim t place numbers given turns kind) s = past_claim i t place (slice_index_or numbers i None) given kind s
past i (Put t place numbers given turns) s = past_put t s
past i (Commit t b) s = if has b.held i then past_block i b s else s
past i (Take j) s = if j == i then past_take s else s
past i (Free j) s = if j == i then away else s
past i (Line j c) s = if j == i then past_line c s else s
past i c s = s

abbrev pub stand_from : ℕ → List PassCall → Standing → Standing
stand_from i [] s = s
stand_from i (c ∷ cs) s = stand_from i cs (past i c s)

-- what the list of a pass shows of the line of lock i
abbrev pub standing_of : ℕ → List PassCall → Standing
standing_of i cs = stand_from i cs away

-- and how many queue turns thread t has taken
abbrev pub turns_past : ℕ → PassCall → ℕ → ℕ
turns_past t (Claim u place numbers given turns kind) n = if u == t then turns else n
turns_past t (Line i (Enter u a)) n = if u.thread == t then u.number else n
turns_past t c n = n

abbrev pub turns_from : ℕ → List PassCall → ℕ → ℕ
turns_from t [] n = n
turns_from t (c ∷ cs) n = turns_from t cs (turns_past t c n)

abbrev pub turns_of : ℕ → List PassCall → ℕ
turns_of t cs = turns_from t cs 0

-- ---- what a package shows of it

-- the turn with which lock i came into the package, and the last turn of its thread
abbrev pub turn_in : PackageView → ℕ → Turn
turn_in q i = turn_by q.context.thread (number_in q i)

abbrev pub last_turn : PackageView → Turn
last_turn q = turn_by q.context.thread q.turns

abbrev pub stand_if : Option LockView → Standing → Standing
stand_if None s = away
stand_if (Some l) s = s

abbrev pub stand_in : PackageView → ℕ → Standing
stand_in q i = stand_if (locked_in q i) (stands_in (turn_in q i) (has q.context.guest.held i) (kind_at i (given_of q)))

-- ---- what a call asks of it

-- in a hall with lines, until the pass sees a stop: after one, all is put back as it is
abbrev pub IfLined : HallTerms → Knows → Type 0 → Type 0
IfLined k v Asked = k.lined ≡ true → HasStop v ⊎ Asked

-- it stands so at lock i
abbrev pub StandsAs : Knows → ℕ → Standing → Type 0
StandsAs v i s = standing_of i v.calls ≡ s

-- whose turn it is
abbrev pub is_of : ℕ → Standing → Bool
is_of t away = false
is_of t (entered u before) = u.thread == t
is_of t (granted u kind) = u.thread == t
is_of t (held u) = u.thread == t
is_of t (loose u) = u.thread == t
is_of t (followed u behind) = u.thread == t
is_of t (closed u) = u.thread == t

-- the package may be put: each lock in it stands as it shows, and its thread stands at no other lock, but at the one that it
-- waits for, where its last turn entered behind another
pub record PutsAs (v : Knows) (q : PackageView) (place : Place) : Type 0 where
  pub locks : (i : ℕ) (l : LockView) → locked_in q i ≡ Some l → StandsAs v i (stand_in q i)
  pub others : (i : ℕ) → locked_in q i ≡ None → place ≢ Waiting i → is_of q.context.thread (standing_of i v.calls) ≡ false
  pub waits : (i : ℕ) → place ≡ Waiting i → (before : Turn) × StandsAs v i (entered (last_turn q) (Some before))
  pub slept : place ≡ Parked → HasBlock (λ b. b.end ≡ Slept) (last_of q.log)
  pub turns : turns_of q.context.thread v.calls ≡ q.turns

-- lock i may be taken: a turn entered its line first
abbrev pub TakesAs : Knows → ℕ → Type 0
TakesAs v i = (u : Turn) × StandsAs v i (entered u None)

-- it may be put into its slot: nobody was behind the turn that released it
abbrev pub FreesAs : Knows → ℕ → Type 0
FreesAs v i = (u : Turn) × StandsAs v i (closed u)

-- lock i, which the pass has, may be passed on to thread t: its turn is the one behind
pub record PassesAs (v : Knows) (t i : ℕ) : Type 0 where
  pub own : Turn
  pub behind : Turn
  pub stands : StandsAs v i (followed own behind)
  pub thread : behind.thread ≡ t
  pub lock : LockView
  pub has : HasLock v i lock

abbrev pub IfWaiting : Knows → ℕ → Place → Type 0
IfWaiting v t (Waiting i) = PassesAs v t i
IfWaiting v t place = Unit {0}

-- the package of thread t may be claimed from this place: no turn has entered whose package is in hand
pub record ClaimsAs (v : Knows) (t : ℕ) (place : Place) : Type 0 where
  pub settled : (i : ℕ) (u : Turn) (before : Option Turn) → standing_of i v.calls ≢ entered u before
  pub waiting : IfWaiting v t place

-- a block of the thread had the lock, and began its section as it was granted
abbrev pub IsRunAs : Block → Standing → Type 0
IsRunAs b (granted u kind) = (u.thread ≡ b.thread) × (b.kind ≡ kind)
IsRunAs b (held u) = u.thread ≡ b.thread
IsRunAs b s = ⊥

-- the block may be sealed
abbrev pub SealsAs : Knows → Block → Type 0
SealsAs v b = (i : ℕ) → has b.held i ≡ true → IsRunAs b (standing_of i v.calls)

-- that of the package may
abbrev pub SealsPending : Knows → PackageView → Type 0
SealsPending v q = (b : Block) → q.pending ≡ Some b → SealsAs v b

-- the turn may enter the line of lock i: it is the next one of a thread whose package is in hand and wants the lock
pub record EntersAs (v : Knows) (i : ℕ) (u : Turn) : Type 0 where
  pub stands : StandsAs v i away
  pub waiter : PackageView
  pub has : Has v u.thread waiter
  pub wants : want_of waiter.image waiter.context ≡ Some i
  pub number : u.number ≡ min (turns_of u.thread v.calls + 1) MAX_NUMBER

-- the turn may be linked in the line of lock i: it does not stand as entered, so that a package that entered was put
abbrev pub LinksAs : Knows → ℕ → Turn → Type 0
LinksAs v i u = (before : Option Turn) → standing_of i v.calls ≢ entered u before

-- the call may be made on the line of lock i
abbrev pub CallsAs : Knows → ℕ → QueueCall → Type 0
CallsAs v i (Enter u a) = EntersAs v i u
CallsAs v i (Link before u) = LinksAs v i u
CallsAs v i (Next own a) = StandsAs v i (loose own)
CallsAs v i (Leave own a) = StandsAs v i (loose own)
