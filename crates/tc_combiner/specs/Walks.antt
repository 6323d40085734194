-- What some calls of a pass and of a seat did, one by one, and how what is out changed; and what a desk may do.
use Rattle.std.specs.Prelude.{◌≡◌, ◌+◌, ℕ, List, [], ◌∷◌, ◌++◌, Option, Some, None, ◌==◌, ◌<◌, ◌≤◌, Bool, true, false, All, length, filter}
use Rattle.tc_combiner.specs.Vocabulary.{Asked, Attempt, Called, Came, Found, HallView, DeskParts, IsAtRest, IsInOrder, IsInRange, IsOut, IsSamePass, IsTurn, Item, Knows, Leave, Left, Line, LineCall, LockView, Loose, MAX_HELD, Miss, Next, Find_stopped, Next_asked}
use Rattle.tc_combiner.specs.Vocabulary.{Next_is, Nobody, Nobody_asked, Outs, Pack, PackageView, PassView, Place, Put, Ready, Refused, EndsSection, SeatView, Stop, Stopped, HallTerms, Try_stopped, Turn, Unlinked, code_of, erase, fits_of, is_pinned, locks, outs, threads}
use Rattle.tc_combiner.specs.Vocabulary.{Claim, Commit, PassCall, Take}
use Rattle.tc_combiner.specs.Change.{Change, change}
use Rattle.tc_combiner.specs.Packages.{IsAside}

-- no call of these is a stop
abbrev pub HaveNoStop : List PassCall → Type 0
HaveNoStop [] = Unit {0}
HaveNoStop (Stop ∷ cs) = ⊥
HaveNoStop (c ∷ cs) = HaveNoStop cs

-- ys is xs with the entry c appended
pub record Shows {A : Type 0} (xs ys : List A) (c : A) : Type 0 where
  pub front : List A
  pub back : List A
  pub is : ys ≡ xs ++ (front ++ c ∷ back)

-- a `stopped` of this pass read 1
abbrev pub HasSeenStop : Knows → Knows → Type 0
HasSeenStop v w = Shows v.calls w.calls (Stopped 1)

-- these are out, each apart from the others, and the rest of what is out is b
abbrev pub Owns : Outs → Outs → List Item → Type 0
Owns b o [] = o ≡ b
Owns b o (x ∷ xs) = IsOut o x × Owns b (erase o x) xs

-- whoever had xs out, apart from anything else, has ys out, and the rest of what is out is unchanged
abbrev pub Moves : Knows → Knows → List Item → List Item → Type 0
Moves v w xs ys = (b : Outs) (zs : List Item) → Owns b (outs v) (xs ++ zs) → Owns b (outs w) (ys ++ zs)

abbrev pub packed : Option PackageView → List Item
packed None = []
packed (Some q) = Pack q ∷ []

-- the threads that these calls put as ready, in order
abbrev pub ready_in : List PassCall → List ℕ
ready_in [] = []
ready_in (Put t Ready ls g n ∷ cs) = t ∷ ready_in cs
ready_in (c ∷ cs) = ready_in cs

-- these calls ask only for this turn
abbrev pub AreAsked : Turn → List LineCall → Type 0
AreAsked u [] = Unit {0}
AreAsked u (Next x a ∷ cs) = (x ≡ u) × AreAsked u cs
AreAsked u (Leave x a ∷ cs) = (x ≡ u) × AreAsked u cs
AreAsked u (c ∷ cs) = ⊥

-- the seat asked for this turn, and did nothing else
pub record Asks (u : Turn) (s t : SeatView) : Type 0 where
  pub threads : t.threads ≡ s.threads
  pub table : t.table ≡ s.table
  pub lines : List LineCall
  pub calls : t.calls ≡ s.calls ++ lines
  pub asked : AreAsked u lines

-- how many of these questions were not answered
abbrev pub unanswered : List LineCall → ℕ
unanswered [] = 0
unanswered (Next x None ∷ cs) = unanswered cs + 1
unanswered (c ∷ cs) = unanswered cs

-- it asked like this, and was not answered so many times
abbrev pub AskedTimes : ℕ → Turn → SeatView → SeatView → Type 0
AskedTimes n u s t = (a : Asks u s t) × (unanswered a.lines ≡ n)

-- who is behind the turn, as the seat records it
abbrev pub AskedAs : Turn → SeatView → SeatView → Asked → Type 0
AskedAs u s t Nobody_asked = Shows s.calls t.calls (Leave u Left)
AskedAs u s t (Next_asked x) = Shows s.calls t.calls (Next u (Some x)) × IsTurn s.threads x
AskedAs u s t Unlinked = Unit {0}

-- so it was found
abbrev pub FoundAs : Turn → SeatView → SeatView → Found → Type 0
FoundAs u s t Nobody = AskedAs u s t Nobody_asked
FoundAs u s t (Next_is x) = AskedAs u s t (Next_asked x)
FoundAs u s t Find_stopped = Unit {0}

-- these are out, apart from one another
abbrev pub Owned : Knows → List Item → Type 0
Owned v xs = (b : Outs) × Owns b (outs v) xs

-- any call but claims, takes, commits and those on lines, except a check of STOP that found no stop
abbrev pub counts : PassCall → Bool
counts (Stopped x) = x == 1
counts (Line i c) = false
counts (Claim t place numbers given turns kind) = false
counts (Take i) = false
counts (Commit t b) = false
counts c = true

-- how many of these calls are checks of STOP
abbrev pub looks_in : List PassCall → ℕ
looks_in [] = 0
looks_in (Stopped x ∷ cs) = looks_in cs + 1
looks_in (c ∷ cs) = looks_in cs

-- how many questions of these seats were not answered
abbrev pub unanswered_at : List SeatView → ℕ
unanswered_at [] = 0
unanswered_at (s ∷ ss) = unanswered s.calls + unanswered_at ss

-- how many tries failed: failed steps of the pass, and questions of these seats that were not answered
abbrev pub failed : Knows → List SeatView → ℕ
failed v ss = length v.missed + unanswered_at ss

-- no more tries of the pass and of these seats failed than there were checks of STOP, except for so many
abbrev pub LooksEachTime : ℕ → Knows → Knows → Change (List SeatView) → Type 0
LooksEachTime but v w seats = failed w seats.new + looks_in v.calls ≤ failed v seats.old + looks_in w.calls + but

abbrev pub no_seats : Change (List SeatView)
no_seats = change [] []

abbrev pub one_seat : Change SeatView → Change (List SeatView)
one_seat seat = change (seat.old ∷ []) (seat.new ∷ [])

-- of the added calls these count, in this order, and none is a stop; image, worker, sealed blocks
-- and joined passes stay; for each failed step there was a check of STOP
pub record Adds (ds : List PassCall) (v w : Knows) : Type 0 where
  pub calls : List PassCall
  pub told : Called calls v w
  pub stops : HaveNoStop calls
  pub are : filter counts calls ≡ ds
  pub looks : LooksEachTime 0 v w no_seats

-- the same pass added these calls; whoever had xs out, apart from anything else, has ys out
pub record Acts (ds : List PassCall) (xs ys : List Item) (p q : PassView) : Type 0 where
  pub own : IsSamePass p q
  pub adds : Adds ds p.knows q.knows
  pub moves : Moves p.knows q.knows xs ys

-- the call of one that saw the stop
abbrev pub saw : List PassCall
saw = Stopped 1 ∷ []

abbrev pub saw_if : Bool → List PassCall
saw_if true = saw
saw_if false = []

abbrev pub saw_at_stop : Found → List PassCall
saw_at_stop Find_stopped = saw
saw_at_stop found = []

-- so many steps of the pass failed, and it checked STOP so many times
pub record Tried (refused looked : ℕ) (v w : Knows) : Type 0 where
  pub misses : List Miss
  pub missed : w.missed ≡ v.missed ++ misses
  pub each : length misses ≡ refused
  pub calls : List PassCall
  pub added : w.calls ≡ v.calls ++ calls
  pub all : looks_in calls ≡ looked

-- as many checks as failed steps
abbrev pub OneLookEach : Knows → Knows → Type 0
OneLookEach v w = (n : ℕ) × Tried n n v w

-- the result of a try
abbrev pub came_of : {A : Type 0} → Attempt A → Option A
came_of (Came a) = Some a
came_of r = None

-- one try: it came, with these items, and nothing was checked; or so many steps failed, and then STOP was checked once
abbrev pub TriedAs : {A : Type 0} → ℕ → (A → List Item) → (PassView → A → Type 0) → PassView → PassView → Attempt A → Type 0
TriedAs n items is p q (Came a) = Acts [] [] (items a) p q × Tried 0 0 p.knows q.knows × is q a
TriedAs n items is p q Refused = Acts [] [] [] p q × Tried n 1 p.knows q.knows
TriedAs n items is p q Try_stopped = Acts saw [] [] p q × Tried n 1 p.knows q.knows

-- the lock may be put back into its slot by the pass, one of this hall
pub record MayBringHome (hall : HallView) (p : PassView) (l : LockView) : Type 0 where
  pub own : p.table ≡ hall.table
  pub lock : l.number < locks hall.terms
  pub out : IsOut (outs p.knows) (Loose l)
  pub rests : EndsSection l.number l

-- a lock that was taken from its slot: it is as it was put there, and may be put back
abbrev pub IsTaken : HallView → ℕ → PassView → LockView → Type 0
IsTaken hall i p l = IsAtRest p.knows.image i l × MayBringHome hall p l

-- tries until it came, with these items, or until the run was stopped
abbrev pub WaitedAs : {A : Type 0} → (A → List Item) → (PassView → A → Type 0) → PassView → PassView → Option A → Type 0
WaitedAs items is p q (Some a) = Acts [] [] (items a) p q × OneLookEach p.knows q.knows × is q a
WaitedAs items is p q None = Acts saw [] [] p q × OneLookEach p.knows q.knows

-- tries so far, none of which came
abbrev pub Waits : PassView → PassView → Type 0
Waits p q = Acts [] [] [] p q × OneLookEach p.knows q.knows

-- after the first question each that was not answered was followed by one check
abbrev pub LooksAfterFirst : Turn → SeatView → SeatView → Knows → Knows → Type 0
LooksAfterFirst u s t v w = (n m : ℕ) × AskedTimes n u s t × Tried 0 m v w × (m ≤ n) × (n ≤ m + 1)

-- this held before each check
abbrev pub LooksBetween : Turn → SeatView → SeatView → Knows → Knows → Type 0
LooksBetween u s t v w = (m : ℕ) × AskedTimes (m + 1) u s t × Tried 0 m v w

-- the package, which is pinned to no worker, may be put at the place in the pass, one of this hall
pub record MayGive (hall : HallView) (p : PassView) (to : Place) (q : PackageView) : Type 0 where
  pub own : p.table ≡ hall.table
  pub thread : q.context.thread < threads hall.terms
  pub place : IsInRange (locks hall.terms) to
  pub out : IsOut (outs p.knows) (Pack q)
  pub order : IsInOrder (code_of to) q
  pub free : is_pinned q ≡ false
  pub fits : fits_of q p.knows.worker ≡ true

-- a pass of this hall has these items out, and a may be set aside there
pub record IsAt (hall : HallView) (xs : List Item) (p : PassView) (a : Option PackageView) : Type 0 where
  pub own : p.table ≡ hall.table
  pub image : p.knows.image ≡ hall.terms.image.value
  pub out : Owned p.knows xs
  pub aside : (c : PackageView) → a ≡ Some c → IsAside hall.terms c

-- the same for these parts of a desk
abbrev pub IsAtHall : HallView → List Item → DeskParts → Type 0
IsAtHall hall xs h = IsAt hall xs h.pass h.aside

-- and they may put so many threads as ready
pub record MayAct (hall : HallView) (xs : List Item) (n : ℕ) (h : DeskParts) : Type 0 where
  pub at : IsAtHall hall xs h
  pub room : length h.ready.items + n ≤ MAX_HELD

-- the list got the threads that these calls put as ready, in order, each of them one of so many
abbrev pub TakesDown : ℕ → List ℕ → List ℕ → List PassCall → Type 0
TakesDown threads old new cs = (new ≡ old ++ ready_in cs) × All (λ t. t < threads) (ready_in cs)

-- the desk made these calls, and took down the threads that they put as ready
pub record Acted (k : HallTerms) (ds : List PassCall) (xs ys : List Item) (parts : Change DeskParts) : Type 0 where
  pub acts : Acts ds xs ys parts.old.pass parts.new.pass
  pub readied : TakesDown (threads k) parts.old.ready.items parts.new.ready.items ds
