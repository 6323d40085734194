-- The progress of a checker: it has taken the blocks of a history.
use Rattle.std.specs.Prelude.{◌≡◌, ◌≢◌, ℕ, ◌<◌, ◌⊎◌, ◌==◌, if◌then◌else◌, true, false, List, [], ◌∷◌, ◌++◌, map, set, length, Option, Some, None}
use Rattle.tc_isa.specs.Sets.{has}
use Rattle.tc_isa.specs.declared.limits.TheConstants.{MAX_TURNS}
use Rattle.tc_isa.specs.declared.options.Options.{Options as Terms}
use Rattle.tc_elf.specs.Shown.{Shown}
use Rattle.tc_journal.specs.declared.block.Block.{Block}
use Rattle.tc_mutex_spec.specs.Blocks.{IsComplete, end_after}
use Rattle.tc_segment.specs.View.{HasRoomFor, LockView, IsAtRest, fresh_state, kept, strict_as, with_journal}
use Rattle.tc_context.specs.Locks.{lock_in, IsPlaced, SameLocks}
use Rattle.tc_context.specs.Whole.{set_of, block_locks}
use Rattle.tc_context.specs.View.{PackageView, IsFresh, IsRoomier, IsWaiting, bare, held_in, locks_in, with_grant, with_turns}
use Rattle.tc_law.specs.Lawful.{Lawful, StandsAt, IsAmong, IsLimited, owner_after, with_states}
use Rattle.tc_replay.specs.Rejected.{AreRight, IsOfThread}
use Rattle.tc_replay.specs.Run.{grant_kind}
use Rattle.tc_replay.specs.declared.reason.Reason.{Reason}

-- a checker: the blocks that it has taken, the packages of all threads, by number, the locks that
-- are in none of them, and why it failed
pub record CheckerView : Type 0 where
  pub image : Shown
  pub terms : Terms
  pub taken : List Block
  pub packages : List PackageView
  pub home : List (Option LockView)
  pub failed : Option Reason

-- the blocks that were taken, and the packages of all threads and the states of all locks after them
pub record Before : Type 0 where
  pub history : List Block
  pub packages : List PackageView
  pub states : List LockView

-- none of these lock states is strict
abbrev pub AreLenient : List LockView → Type 0
AreLenient states = (k : ℕ) (l : LockView) → StandsAt states k l → l.journal.strict ≡ false

-- lock k, which no thread holds: it is at rest, and as the blocks leave it
pub record IsHome (image : Shown) (states : List LockView) (k : ℕ) (l : LockView) : Type 0 where
  pub rest : IsAtRest image k l
  pub place : StandsAt states k (kept l)

-- a package between its blocks has the locks that its thread holds, and no other
pub record IsCalm (p : PackageView) : Type 0 where
  pub pending : p.pending ≡ None
  pub granted : p.granted ≡ None
  pub held : (k : ℕ) → set_of p.context k ≡ true → has p.context.guest.held k ≡ true

-- the thread has run its block, and released this lock, which is still in the package
pub record HasReleased (lock : ℕ) (p : PackageView) : Type 0 where
  pub pending : p.pending ≡ None
  pub granted : p.granted ≡ None
  pub released : has (held_in p) lock ≡ false
  pub here : set_of p.context lock ≡ true

-- all packages and locks are as the blocks leave them, each block is right, and the checker has each lock without owner
pub record AreAsLeft (image : Shown) (terms : Terms) (before : Before) (home : List (Option LockView)) : Type 0 where
  pub limits : IsLimited image terms.fuel
  pub law : Lawful image terms.fuel terms.limit before.history (map bare before.packages) before.states
  pub right : AreRight image terms before.history
  pub lenient : AreLenient before.states
  pub among : (u : ℕ) (x : PackageView) → StandsAt before.packages u x → IsAmong (map bare before.packages) before.states x × IsCalm x
  pub home_is : (k : ℕ) (l : LockView) → lock_in home k ≡ Some l → IsHome image before.states k l
  pub owned : (k : ℕ) → k < length image.guards → lock_in home k ≡ None → owner_after image terms.fuel before.history k ≢ None

-- these packages, and these locks that nobody owns, have taken the blocks of this history
abbrev pub AreTaken : Shown → Terms → List Block → List PackageView → List (Option LockView) → Type 0
AreTaken image terms h packages home = (states : List LockView) × AreAsLeft image terms (record { history = h; packages = packages; states = states }) home

-- the checker has not failed, and these are the blocks that it has taken
pub record HasTaken (c : CheckerView) (h : List Block) : Type 0 where
  pub on : c.failed ≡ None
  pub taken : c.taken ≡ h

-- the invariant of each checker: its packages and its locks have taken its blocks, unless it has failed
abbrev pub HasWhatItTook : CheckerView → Type 0
HasWhatItTook c = c.failed ≡ None → AreTaken c.image c.terms c.taken c.packages c.home

-- each thread has ended after the blocks that the checker has taken
abbrev pub HasEnded : CheckerView → Type 0
HasEnded c = IsComplete c.image (end_after c.image c.terms.fuel c.taken)

-- ---- at the start

-- lock k in which nothing ran, and whose journal is not strict
abbrev pub lenient_state : Shown → ℕ → ℕ → LockView
lenient_state image limit k = with_journal (strict_as false) (fresh_state image k limit)

-- the packages of all threads, in which nothing ran
pub record AreFreshPackages (image : Shown) (fuel : ℕ) (packages : List PackageView) : Type 0 where
  pub all : length packages ≡ length image.entries
  pub fresh : (t : ℕ) (p : PackageView) → StandsAt packages t p → IsFresh image t fuel p

-- ---- the current package

-- the current package of a checker: it is as the blocks leave it, so are the others, and each lock
-- that nobody owns is with the checker or in this package
pub record IsWith (image : Shown) (terms : Terms) (before : Before) (home : List (Option LockView)) (p : PackageView) : Type 0 where
  pub limits : IsLimited image terms.fuel
  pub law : Lawful image terms.fuel terms.limit before.history (map bare before.packages) before.states
  pub right : AreRight image terms before.history
  pub lenient : AreLenient before.states
  pub mine : IsAmong (map bare before.packages) before.states p
  pub pending : p.pending ≡ None
  pub others : (u : ℕ) (x : PackageView) → u ≢ p.context.thread → StandsAt before.packages u x → IsAmong (map bare before.packages) before.states x × IsCalm x
  pub home_is : (k : ℕ) (l : LockView) → lock_in home k ≡ Some l → IsHome image before.states k l
  pub owned : (k : ℕ) → k < length image.guards → lock_in home k ≡ None → (set_of p.context k ≡ true) ⊎ (owner_after image terms.fuel before.history k ≢ None)

-- this still holds after locks went from the current package back to the checker
abbrev pub StaysWith : List (Option LockView) → PackageView → List (Option LockView) → PackageView → Type 0
StaysWith home p back q = (image : Shown) (terms : Terms) (before : Before) → IsWith image terms before home p → IsWith image terms before back q

-- a released lock went from the package back to the checker
pub record WentHome (lock : ℕ) (home : List (Option LockView)) (p : PackageView) (back : List (Option LockView)) (q : PackageView) : Type 0 where
  pub at : StaysWith home p back q
  pub granted : q.granted ≡ None
  pub set : (k : ℕ) → set_of q.context k ≡ (if k == lock then false else set_of p.context k)
  pub guest : q.context.guest ≡ p.context.guest
  pub rest : bare q ≡ bare p

-- all locks that the block released went back
pub record AllWentHome (home : List (Option LockView)) (p : PackageView) (back : List (Option LockView)) (q : PackageView) : Type 0 where
  pub at : StaysWith home p back q
  pub calm : IsCalm q
  pub rest : bare q ≡ bare p

-- the package has run the block, and still has its locks
pub record HasRun (b : Block) (p : PackageView) : Type 0 where
  pub pending : p.pending ≡ None
  pub granted : p.granted ≡ None
  pub locks : (k : ℕ) → has b.held k ≡ set_of p.context k

-- in the package and in the locks only capacities changed
pub record IsOnlyRoomier (old : List (Option LockView)) (p : PackageView) (new : List (Option LockView)) (q : PackageView) : Type 0 where
  pub rooms : IsRoomier p q
  pub home : SameLocks old new

-- the current package is that of the next block, and its thread runs
pub record IsNext (image : Shown) (terms : Terms) (before : Before) (home : List (Option LockView)) (p : PackageView) (b : Block) : Type 0 where
  pub at : IsWith image terms before home p
  pub calm : IsCalm p
  pub mine : b.thread ≡ p.context.thread
  pub thread : IsOfThread image (end_after image terms.fuel before.history) b
  pub stamp : b.stamp ≡ length before.history

-- there is capacity in the lock for a block's entry
abbrev pub HasRoom : LockView → Type 0
HasRoom l = HasRoomFor MAX_TURNS l.journal

-- what a package requires of a lock that is granted to it
pub record MayGrant (p : PackageView) (l : LockView) : Type 0 where
  pub waiting : IsWaiting p l.number
  pub rest : IsAtRest p.image l.number l
  pub lenient : l.journal.strict ≡ false

-- the lock went from the checker into the package, with the kind of the recorded block
pub record DidGrant (b : Block) (k : ℕ) (home left : List (Option LockView)) (p q : PackageView) : Type 0 where
  pub lock : LockView
  pub turn : ℕ
  pub here : lock_in home k ≡ Some lock
  pub gone : IsPlaced k None home left
  pub is : q ≡ with_grant lock (grant_kind b) turn (with_turns turn p)
  pub locks : IsPlaced lock.number (Some lock) p.context.locks q.context.locks

-- the package that took its step: the locks in it are those of its block
pub record IsReadyFor (image : Shown) (p : PackageView) : Type 0 where
  pub set : (k : ℕ) → set_of p.context k ≡ true → block_locks image p.context k ≡ true

-- with one more block, after which the package of its thread is this
abbrev pub after_taking : Before → Block → PackageView → Before
after_taking before b p = record {
  history = before.history ++ b ∷ [];
  packages = set before.packages p.context.thread p;
  states = with_states (locks_in p) before.states;
}

-- one more block, which this package ran: after the run it was `ran`, before the released locks went back
pub record TookOne (image : Shown) (terms : Terms) (before : Before) (b : Block) (home : List (Option LockView)) (p : PackageView) : Type 0 where
  pub ran : PackageView
  pub at : IsWith image terms (after_taking before b ran) home p
  pub calm : IsCalm p
  pub same : bare p ≡ bare ran
  pub number : ran.context.thread ≡ b.thread
