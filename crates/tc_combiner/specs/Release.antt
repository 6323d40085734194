-- What became of a released lock, and of all locks of a thread that has ended, with each call of the pass.
use Rattle.std.specs.Prelude.{◌⊎◌, ◌≡◌, ℕ, Bool, true, false, List, [], ◌∷◌, ◌++◌, ◌<◌, Some, None, is_some, ◌≢◌, ◌+◌, ◌≤◌, length}
use Rattle.tc_combiner.specs.Vocabulary.{Adopted, Block, PassCall, Did_adopt, Did_stop, Done, Free, GoesOn, Granted, HallView, DeskParts, Has_ended, IsAtRest, IsTurn, Item, Kind, Knows, Leave, Left, LineCall, LockView, MAX_HELD, Next, Pack, PackageView, Passed}
use Rattle.tc_combiner.specs.Vocabulary.{Ready, Releases, SeatView, Settled, Shown, Stopped, HallTerms, Turn, Was_adopted, Was_granted, Was_stopped, Went_home, bare, blocks_of, ends_thread, has, last_of, locked_in, locks, locks_of, may_adopt, number_in, put_call, run_of, threads, without_lock}
use Rattle.tc_combiner.specs.Packages.{DidGrant, DidTakeOut, HasHeldAnd, IsGood, IsWaiter, Runs, HasNone}
use Rattle.tc_combiner.specs.Walks.{Asks, LooksEachTime, Shows, Acted, MayAct, one_seat}
use Rattle.tc_combiner.specs.Answers.{Does, WentOn, SetAside, back}
use Rattle.tc_combiner.specs.Stances.{LeftSo}
use Rattle.tc_combiner.specs.Change.{Change, change}
use Rattle.tc_combiner.specs.Steps.{DeskStep, at_lock, by_parts, with_package}
use Rattle.tc_combiner.specs.View.{seat_at}

-- the batch rule lets the worker of the block adopt a waiter for the lock
abbrev pub adopts : LockView → Block → Bool
adopts l b = may_adopt b l.number (run_of l.number (blocks_of l)) l.journal.limit

-- lock state l, one of the hall, is out of its package, which released it with its block b, a block of this pass
pub record IsReleased (k : HallTerms) (v : Knows) (b : Block) (l : LockView) : Type 0 where
  pub lock : l.number < locks k
  pub rest : IsAtRest v.image l.number l
  pub last : last_of (blocks_of l) ≡ Some b
  pub released : Releases l.number b
  pub worker : b.worker ≡ v.worker

-- package q, of a thread of the hall, released lock i of the hall with its last block b, of this pass, and still has it
pub record MayRelease (k : HallTerms) (v : Knows) (i : ℕ) (b : Block) (q : PackageView) : Type 0 where
  pub lock : i < locks k
  pub of : q.image ≡ v.image
  pub thread : q.context.thread < threads k
  pub settled : q.pending ≡ None
  pub granted : q.granted ≡ None
  pub last : last_of q.log ≡ Some b
  pub released : Releases i b
  pub worker : b.worker ≡ v.worker
  pub here : is_some (locked_in q i) ≡ true

-- its thread runs on, with the other locks that it holds
pub record MayUnlock (k : HallTerms) (v : Knows) (i : ℕ) (b : Block) (q : PackageView) : Type 0 where
  pub release : MayRelease k v i b q
  pub runs : Runs q
  pub locks_in : HasHeldAnd i q

-- the desk has the package q out, and may pass on its lock i, which its block b released
pub record MayPassOn (hall : HallView) (i : ℕ) (b : Block) (q : PackageView) (h : DeskParts) : Type 0 where
  pub parts : MayAct hall (Pack q ∷ []) 1 h
  pub release : MayRelease hall.terms h.pass.knows i b q

-- the desk has xs out, and may grant the lock l, which the block b released, to the turn u
pub record MayGrantNext (hall : HallView) (l : LockView) (b : Block) (u : Turn) (xs : List Item) (h : DeskParts) : Type 0 where
  pub parts : MayAct hall xs 1 h
  pub released : IsReleased hall.terms h.pass.knows b l
  pub turn : IsTurn (threads hall.terms) u

abbrev pub adopted_in : Passed → List Item
adopted_in (Was_adopted q) = Pack q ∷ []
adopted_in r = []

-- q is the package of the turn's thread, with lock l granted under the turn's number
pub record IsGrantedTo (k : Kind) (l : LockView) (u : Turn) (image : Shown) (q : PackageView) : Type 0 where
  pub waiter : PackageView
  pub was : IsWaiter u.thread l.number image waiter
  pub grant : DidGrant l k u.number waiter q

-- the turn u is next after the block b released l: with these calls and no others
abbrev pub GrantedAs : Shown → LockView → Block → Turn → List PassCall → Passed → Type 0
GrantedAs image l b u cs Went_home = ⊥
GrantedAs image l b u cs Was_granted = (q : PackageView) × IsGrantedTo Granted l u image q × (adopts l b ≡ false) × (cs ≡ put_call q Ready ∷ [])
GrantedAs image l b u cs (Was_adopted q) = IsGrantedTo Adopted l u image q × (adopts l b ≡ true) × IsGood q image b.worker × (cs ≡ [])
GrantedAs image l b u cs Was_stopped = cs ≡ Stopped 1 ∷ Free l.number ∷ []

-- in the step the seat got this answer
abbrev pub SeatTells : DeskStep SeatView → LineCall → Type 0
SeatTells x answer = Shows x.seats.old.calls x.seats.new.calls answer

-- in the step x the lock l of the turn own went to the turn behind it, or to its slot if there is none
abbrev pub FollowedAs : DeskStep SeatView → LockView → Block → Turn → List PassCall → Passed → Type 0
FollowedAs x l b own cs Went_home = SeatTells x (Leave own Left) × (cs ≡ Free l.number ∷ [])
FollowedAs x l b own cs Was_granted = (u : Turn) × SeatTells x (Next own (Some u)) × GrantedAs x.image l b u cs Was_granted
FollowedAs x l b own cs (Was_adopted q) = (u : Turn) × SeatTells x (Next own (Some u)) × GrantedAs x.image l b u cs (Was_adopted q)
FollowedAs x l b own cs Was_stopped = cs ≡ Stopped 1 ∷ Free l.number ∷ []

-- the turn with which the package got lock i
abbrev pub turn_of : PackageView → ℕ → Turn
turn_of q i = record { thread = q.context.thread; number = number_in q i }

-- what was done with the lock l for the turn u
pub record DidGrantNext (k : HallTerms) (l : LockView) (b : Block) (u : Turn) (xs : List Item) (parts : Change DeskParts) (r : Passed) : Type 0 where
  pub calls : List PassCall
  pub acted : Acted k calls xs (adopted_in r) parts
  pub aside : parts.new.aside ≡ parts.old.aside
  pub became : GrantedAs k.image.value l b u calls r

-- lock i came out of the package, with xs out besides; How: what became of it, with these calls and no others.
-- The first question who is behind needs no check of STOP, since `leave` follows if it is not answered
pub record GaveUp (k : HallTerms) (i : ℕ) (q : Change PackageView) (xs : List Item) (seat : Change SeatView) (parts : Change DeskParts) (How : LockView → List PassCall → Type 0) : Type 0 where
  pub calls : List PassCall
  pub acted : Acted k calls (Pack q.old ∷ []) (Pack q.new ∷ xs) parts
  pub aside : parts.new.aside ≡ parts.old.aside
  pub state : LockView
  pub taken : DidTakeOut i state q.old q.new
  pub asks : Asks (turn_of q.old i) seat.old seat.new
  pub looks : LooksEachTime 1 parts.old.pass.knows parts.new.pass.knows (one_seat seat)
  pub became : How state calls

-- this was done with lock i, which the block b of the package released
abbrev pub DidPass : HallTerms → ℕ → Block → Change PackageView → Change SeatView → Change DeskParts → Passed → Type 0
DidPass k i b q seat parts r = GaveUp k i q (adopted_in r) seat parts (λ l cs. FollowedAs (by_parts k q.old seat parts) l b (turn_of q.old i) cs r)

-- in the step x the package's lock i was passed on, which it released by its block b
abbrev pub PassedAs : DeskStep SeatView → ℕ → Block → List PassCall → Passed → Type 0
PassedAs x i b cs r = (l : LockView) × (locked_in x.given i ≡ Some l) × FollowedAs x l b (turn_of x.given i) cs r

-- how the unlock of lock i by the block b was settled in the step x, with these calls and no
-- others: what became of the lock, and then of the package without it
abbrev pub UnlockedAs : DeskStep SeatView → ℕ → Block → List PassCall → Settled → Type 0
UnlockedAs x i b cs (GoesOn r) = (ds es : List PassCall) × (cs ≡ ds ++ es) × (PassedAs x i b ds Went_home ⊎ PassedAs x i b ds Was_granted) × WentOn (with_package (without_lock i x.given) x) es (GoesOn r)
UnlockedAs x i b cs (Did_adopt r) = (ds es : List PassCall) × (cs ≡ ds ++ es) × PassedAs x i b ds (Was_adopted r) × SetAside (without_lock i x.given) x.aside.old x.aside.new es × IsGood r x.image x.worker
UnlockedAs x i b cs Did_stop = (ds : List PassCall) × (cs ≡ ds ++ back (without_lock i x.given) x.aside.old) × PassedAs x i b ds Was_stopped × (x.aside.new ≡ None)
UnlockedAs x i b cs r = ⊥

-- what was done at the unlock
abbrev pub Unlocks : HallTerms → ℕ → Block → PackageView → Change SeatView → Change DeskParts → Settled → Type 0
Unlocks k i b q seat parts r = Does k q parts r (λ cs. Asks (turn_of q i) seat.old seat.new × LooksEachTime 1 parts.old.pass.knows parts.new.pass.knows (one_seat seat) × UnlockedAs (by_parts k q seat parts) i b cs r)

-- a seat of the same queue
abbrev pub IsSameSeat : SeatView → SeatView → Type 0
IsSameSeat s t = (t.table ≡ s.table) × (t.threads ≡ s.threads)

pub record AreSameSeats (ss ts : List SeatView) : Type 0 where
  pub count : length ts ≡ length ss
  pub each : (j : ℕ) → IsSameSeat (seat_at ss j) (seat_at ts j)

-- the seat i changed like this, and the other seats are unchanged
pub record AtSeat (i : ℕ) (ss ts : List SeatView) (P : SeatView → SeatView → Type 0) : Type 0 where
  pub same : AreSameSeats ss ts
  pub others : (j : ℕ) → j ≢ i → seat_at ts j ≡ seat_at ss j
  pub here : P (seat_at ss i) (seat_at ts i)

-- the thread of package q ended with the block b, a block of this pass; the locks in it are those of b, and all are of the hall
pub record MayEnd (k : HallTerms) (v : Knows) (b : Block) (q : PackageView) : Type 0 where
  pub of : q.image ≡ v.image
  pub thread : q.context.thread < threads k
  pub settled : q.pending ≡ None
  pub granted : q.granted ≡ None
  pub last : last_of q.log ≡ Some b
  pub ended : ends_thread b.end ≡ true
  pub worker : b.worker ≡ v.worker
  pub known : (i : ℕ) → has b.held i ≡ true → i < locks k
  pub locks : (i : ℕ) → is_some (locked_in q i) ≡ has b.held i

-- ---- one lock

-- in the step x the lock l of an ended thread with turn own; was, is: whether the run was stopped before, and is now
abbrev pub LeftAs : DeskStep SeatView → LockView → Block → Turn → List PassCall → Bool → Bool → Type 0
LeftAs x l b own cs false false = FollowedAs x l b own cs Went_home ⊎ FollowedAs x l b own cs Was_granted
LeftAs x l b own cs false true = FollowedAs x l b own cs Was_stopped
LeftAs x l b own cs true false = ⊥
LeftAs x l b own cs true true = (x.seats.new ≡ x.seats.old) × (cs ≡ Free l.number ∷ [])

-- this was done with lock i of the package, whose thread ended with the block b; stopped: whether the run was stopped
abbrev pub DidLeave : HallTerms → ℕ → Block → Change PackageView → Change SeatView → Change DeskParts → Change Bool → Type 0
DidLeave k i b q seat parts stopped = GaveUp k i q [] seat parts (λ l cs. LeftAs (by_parts k q.old seat parts) l b (turn_of q.old i) cs stopped.old stopped.new)

-- ---- all of its locks

-- package p is q without its locks
pub record IsEmptied (q p : PackageView) : Type 0 where
  pub same : bare p ≡ bare q
  pub granted : p.granted ≡ q.granted
  pub free : HasNone p

-- in the step x lock i of the package, whose thread ended with the block b; was: whether the run was stopped before
pub record OneLeft (x : DeskStep SeatView) (b : Block) (i : ℕ) (was : Bool) : Type 0 where
  pub state : LockView
  pub here : locked_in x.given i ≡ Some state
  pub calls : List PassCall
  pub stopped : Bool
  pub became : LeftAs x state b (turn_of x.given i) calls was stopped

-- the same for each of these locks, in this order, with these calls and no others
abbrev pub LeftInOrder : DeskStep (List SeatView) → Block → List ℕ → List PassCall → Bool → Bool → Type 0
LeftInOrder x b [] cs was end = (cs ≡ []) × (end ≡ was)
LeftInOrder x b (i ∷ is) cs was end = (one : OneLeft (at_lock i x) b i was) × (es : List PassCall) × (cs ≡ one.calls ++ es) × LeftInOrder x b is es one.stopped end

-- the seats of the locks of the block b asked only for their turns of the package q, and each other seat is unchanged
pub record SeatsLeft (b : Block) (q : PackageView) (ss ts : List SeatView) : Type 0 where
  pub count : length ts ≡ length ss
  pub others : (j : ℕ) → has b.held j ≡ false → seat_at ts j ≡ seat_at ss j
  pub asks : (j : ℕ) → has b.held j ≡ true → Asks (turn_of q j) (seat_at ss j) (seat_at ts j)

-- what was done with all locks of the package, whose thread ended with the block b
pub record DidLeaveAll (k : HallTerms) (b : Block) (q : Change PackageView) (seats : Change (List SeatView)) (parts : Change DeskParts) (end : Bool) : Type 0 where
  pub calls : List PassCall
  pub acted : Acted k calls (Pack q.old ∷ []) (Pack q.new ∷ []) parts
  pub aside : parts.new.aside ≡ parts.old.aside
  pub emptied : IsEmptied q.old q.new
  pub seats_left : SeatsLeft b q.old seats.old seats.new
  pub looks : LooksEachTime (length (locks_of b.held)) parts.old.pass.knows parts.new.pass.knows seats
  pub order : LeftInOrder (by_parts k q.old seats parts) b (locks_of b.held) calls false end

-- what became in the step x of the package, whose thread ended with the block b, with these calls
-- and no others: its locks were passed on in ascending order, and then it was put as Done
abbrev pub EndedAs : DeskStep (List SeatView) → Block → List PassCall → Settled → Type 0
EndedAs x b cs Has_ended = (p : PackageView) × (ds : List PassCall) × (cs ≡ ds ++ put_call p Done ∷ []) × IsEmptied x.given p × LeftInOrder x b (locks_of b.held) ds false false × (x.aside.new ≡ x.aside.old)
EndedAs x b cs Did_stop = (p : PackageView) × (ds : List PassCall) × (cs ≡ ds ++ back p x.aside.old) × IsEmptied x.given p × LeftInOrder x b (locks_of b.held) ds false true × (x.aside.new ≡ None)
EndedAs x b cs r = ⊥

-- what was done at the thread's end
abbrev pub Ends : HallTerms → Block → PackageView → Change (List SeatView) → Change DeskParts → Settled → Type 0
Ends k b q seats parts r = Does k q parts r (λ cs. SeatsLeft b q seats.old seats.new × LooksEachTime (length (locks_of b.held)) parts.old.pass.knows parts.new.pass.knows seats × EndedAs (by_parts k q seats parts) b cs r)

-- ---- in between

-- the locks in rest wait, the others were passed on, or put into their slots if the run was stopped
pub record Ending (k : HallTerms) (b : Block) (q : Change PackageView) (rest : ℕ) (seats : Change (List SeatView)) (parts : Change DeskParts) (now : Bool) : Type 0 where
  pub calls : List PassCall
  pub acted : Acted k calls (Pack q.old ∷ []) (Pack q.new ∷ []) parts
  pub aside : parts.new.aside ≡ parts.old.aside
  pub room : length parts.new.ready.items + length (locks_of rest) ≤ MAX_HELD
  pub same : bare q.new ≡ bare q.old
  pub granted : q.new.granted ≡ q.old.granted
  pub numbers : q.new.numbers ≡ q.old.numbers
  pub lines : LeftSo k parts.old.pass.knows parts.new.pass.knows q.new now
  pub within : (j : ℕ) → has rest j ≡ true → has b.held j ≡ true
  pub left : (j : ℕ) → has rest j ≡ true → locked_in q.new j ≡ locked_in q.old j
  pub gone : (j : ℕ) → has rest j ≡ false → locked_in q.new j ≡ None
  pub passed : ℕ
  pub few : passed + length (locks_of rest) ≤ length (locks_of b.held)
  pub looks : LooksEachTime passed parts.old.pass.knows parts.new.pass.knows seats
  pub count : length seats.new ≡ length seats.old
  pub others : (j : ℕ) → has b.held j ≡ false → seat_at seats.new j ≡ seat_at seats.old j
  pub wait : (j : ℕ) → has rest j ≡ true → seat_at seats.new j ≡ seat_at seats.old j
  pub asks : (j : ℕ) → has b.held j ≡ true → has rest j ≡ false → Asks (turn_of q.old j) (seat_at seats.old j) (seat_at seats.new j)
  pub order : (us : List SeatView) (es : List PassCall) (end : Bool) → ((j : ℕ) → has rest j ≡ false → seat_at us j ≡ seat_at seats.new j) → LeftInOrder (by_parts k q.old (change seats.old us) parts) b (locks_of rest) es now end → LeftInOrder (by_parts k q.old (change seats.old us) parts) b (locks_of b.held) (calls ++ es) false end
