-- What a desk's calls answer, with each call of its pass.
use Rattle.std.specs.Prelude.{◌⊎◌, ◌≡◌, ◌<◌, ℕ, ◌+◌, min, if◌then◌else◌, List, [], ◌∷◌, ◌++◌, Option, Some, None}
use Rattle.tc_combiner.specs.Vocabulary.{Behind, PassCall, Did_adopt, Did_park, Did_stop, Done, Enter, First, GoesOn, HallView, DeskParts, HasBlock, IsNumber, IsOut, IsWaiting, Item, Link, LockView, MAX_NUMBER, Pack, PackageView, Parked, PassView, Place, Ready, SeatView, Slept, Stopped, HallTerms, Turn, Waiting, is_running, last_of, locks, outs, put_call, threads, with_line, with_turns}
use Rattle.tc_combiner.specs.Vocabulary.{Entered, LineCall, Settled, Shipped}
use Rattle.tc_combiner.specs.Packages.{DidTake, HoldsNone, IsAside, IsGood, IsPlain, MayGoOn, Runs, Wants}
use Rattle.tc_combiner.specs.Walks.{TakesDown, packed, Acted, Acts}
use Rattle.tc_combiner.specs.Change.{Change}
use Rattle.tc_combiner.specs.Steps.{DeskStep, at_none, by_parts, with_package}

abbrev pub carried : Settled → List Item
carried (GoesOn q) = Pack q ∷ []
carried (Did_adopt q) = Pack q ∷ []
carried r = []

-- the list got the threads that these calls put as ready; it is empty if the run was stopped
abbrev pub HasReadied : ℕ → Settled → List ℕ → List ℕ → List PassCall → Type 0
HasReadied threads Did_stop old new cs = new ≡ []
HasReadied threads r old new cs = TakesDown threads old new cs

-- the desk had the package q and made these calls, with this answer
pub record Answers (k : HallTerms) (cs : List PassCall) (q : PackageView) (parts : Change DeskParts) (r : Settled) : Type 0 where
  pub acts : Acts cs (Pack q ∷ packed parts.old.aside) (carried r ++ packed parts.new.aside) parts.old.pass parts.new.pass
  pub readied : HasReadied (threads k) r parts.old.ready.items parts.new.ready.items cs
  pub aside : (a : PackageView) → parts.new.aside ≡ Some a → IsAside k a

-- the same, with calls of which How says what became of the package
pub record Does (k : HallTerms) (q : PackageView) (parts : Change DeskParts) (r : Settled) (How : List PassCall → Type 0) : Type 0 where
  pub calls : List PassCall
  pub answers : Answers k calls q parts r
  pub became : How calls

-- ---- packages that are put back

abbrev pub place_back : PackageView → Place
place_back q = if is_running q.context.guest.status then Ready else Done

-- a pass of this hall has the package q out, and may put it back
pub record MayPutBack (hall : HallView) (p : PassView) (q : PackageView) : Type 0 where
  pub own : p.table ≡ hall.table
  pub out : IsOut (outs p.knows) (Pack q)
  pub plain : IsPlain (threads hall.terms) q

-- the calls that put back this package and then the one set aside
abbrev pub back_aside : Option PackageView → List PassCall
back_aside None = []
back_aside (Some a) = put_call a Ready ∷ []

abbrev pub back : PackageView → Option PackageView → List PassCall
back q a = put_call q (place_back q) ∷ back_aside a

-- the package q and the one set aside were put back
pub record PutAllBack (q : PackageView) (parts : Change DeskParts) : Type 0 where
  pub acts : Acts (back q parts.old.aside) (Pack q ∷ packed parts.old.aside) [] parts.old.pass parts.new.pass
  pub aside : parts.new.aside ≡ None
  pub ready : parts.new.ready.items ≡ []

-- ---- a package that wants a lock

-- the package q may ask for lock i
pub record MayAsk (k : HallTerms) (i : ℕ) (q : PackageView) : Type 0 where
  pub lock : i < locks k
  pub of : q.image ≡ k.image.value
  pub plain : IsPlain (threads k) q
  pub want : Wants q i

-- the package q, which waits for lock i, may get it under the queue number n
pub record MayGetFirst (k : HallTerms) (i n : ℕ) (q : PackageView) : Type 0 where
  pub lock : i < locks k
  pub may : MayGoOn k q
  pub waits : IsWaiting q i
  pub number : IsNumber n

-- in the step x the package, now r, got lock i from its slot under the number n; or the run was stopped
abbrev pub FirstAs : {Seats : Type 0} → DeskStep Seats → ℕ → ℕ → List PassCall → Option PackageView → Type 0
FirstAs x i n cs (Some r) = (cs ≡ []) × (x.aside.new ≡ x.aside.old) × ((l : LockView) × DidTake i l n x.given r) × IsGood r x.image x.worker
FirstAs x i n cs None = (cs ≡ Stopped 1 ∷ back x.given x.aside.old) × (x.aside.new ≡ None)

-- if the run was stopped, no thread is reported as ready
abbrev pub KeepsReady : Option PackageView → List ℕ → List ℕ → Type 0
KeepsReady (Some r) old new = new ≡ old
KeepsReady None old new = new ≡ []

-- this was done for the turn that is first in its queue
pub record DidFirst (k : HallTerms) (i n : ℕ) (q : PackageView) (parts : Change DeskParts) (r : Option PackageView) : Type 0 where
  pub calls : List PassCall
  pub acts : Acts calls (Pack q ∷ packed parts.old.aside) (packed r ++ packed parts.new.aside) parts.old.pass parts.new.pass
  pub ready : KeepsReady r parts.old.ready.items parts.new.ready.items
  pub became : FirstAs (by_parts k q at_none parts) i n calls r

-- the package with its next number counted, and the turn of that number
abbrev pub counted : PackageView → PackageView
counted q = with_turns (min (q.turns + 1) MAX_NUMBER) q

abbrev pub next_turn : PackageView → Turn
next_turn q = record { thread = q.context.thread; number = min (q.turns + 1) MAX_NUMBER }

-- this was taken for the package's next turn
abbrev pub TakenAs : DeskStep SeatView → ℕ → List PassCall → Option PackageView → Type 0
TakenAs x i cs r = FirstAs (with_package (counted x.given) x) i (next_turn x.given).number cs r

-- in the step x the package entered the queue of lock i with its next turn, with these calls and no
-- others: it was first, and the lock was granted as Taken under the turn's number; or it was behind
-- another, was put as waiting with all its locks, and linked
abbrev pub AcquiredAs : DeskStep SeatView → ℕ → List PassCall → Settled → Type 0
AcquiredAs x i cs (GoesOn r) = (x.seats.new ≡ with_line x.seats.old (Enter (next_turn x.given) First)) × TakenAs x i cs (Some r)
AcquiredAs x i cs Shipped = (mark : ℕ) × (x.seats.new ≡ with_line (with_line x.seats.old (Enter (next_turn x.given) (Behind mark))) (Link mark (next_turn x.given))) × (cs ≡ put_call (counted x.given) (Waiting i) ∷ []) × (x.aside.new ≡ x.aside.old)
AcquiredAs x i cs Did_stop = (x.seats.new ≡ with_line x.seats.old (Enter (next_turn x.given) First)) × TakenAs x i cs None
AcquiredAs x i cs r = ⊥

-- what was done for a package that wants lock i
abbrev pub Acquires : HallTerms → ℕ → PackageView → Change SeatView → Change DeskParts → Settled → Type 0
Acquires k i q seat parts r = Does k q parts r (λ cs. AcquiredAs (by_parts k q seat parts) i cs r)

-- the first that the pass was told is this
pub record BeginsAs (first : List PassCall → Type 0) (p q : PassView) : Type 0 where
  pub begun : List PassCall
  pub rest : List PassCall
  pub calls : q.knows.calls ≡ p.knows.calls ++ (begun ++ rest)
  pub is : first begun

-- an order that fits told the pass first that the turn entered
pub record EntersFirst {X : Type 0} (fits : X → Type 0) (notes : X → LineCall → List PassCall → Type 0) (u : Turn) (p q : PassView) : Type 0 where
  pub line : X
  pub fitting : fits line
  pub answer : Entered
  pub begins : BeginsAs (notes line (Enter u answer)) p q

-- ---- a package that sleeps

pub record MayPark (k : HallTerms) (q : PackageView) : Type 0 where
  pub plain : IsPlain (threads k) q
  pub runs : Runs q
  pub slept : HasBlock (λ b. b.end ≡ Slept) (last_of q.log)

pub record Parks (k : HallTerms) (q : PackageView) (parts : Change DeskParts) : Type 0 where
  pub answers : Answers k (put_call q Parked ∷ []) q parts Did_park
  pub aside : parts.new.aside ≡ parts.old.aside

-- ---- a package that goes on, or is set aside

-- in the step x the package stays current
abbrev pub StaysInHand : {Seats : Type 0} → DeskStep Seats → List PassCall → PackageView → Type 0
StaysInHand x cs r = (r ≡ x.given) × (x.aside.new ≡ x.aside.old) × (HoldsNone x.given → x.aside.old ≡ None) × (cs ≡ [])

-- it was adopted, holds no lock, and was given back as ready, and the one that was set aside, r, is current
abbrev pub IsHandedBack : {Seats : Type 0} → DeskStep Seats → List PassCall → PackageView → Type 0
IsHandedBack x cs r = (x.aside.old ≡ Some r) × HoldsNone x.given × (x.aside.new ≡ None) × (cs ≡ put_call x.given Ready ∷ [])

-- one of the two goes on
abbrev pub WentOn : {Seats : Type 0} → DeskStep Seats → List PassCall → Settled → Type 0
WentOn x cs (GoesOn r) = IsGood r x.image x.worker × (StaysInHand x cs r ⊎ IsHandedBack x cs r)
WentOn x cs r = ⊥

abbrev pub Goes : HallTerms → PackageView → Change DeskParts → Settled → Type 0
Goes k q parts r = Does k q parts r (λ cs. WentOn (by_parts k q at_none parts) cs r)

-- the package q is set aside, or it was given back as ready if one is set aside already
abbrev pub SetAside : PackageView → Option PackageView → Option PackageView → List PassCall → Type 0
SetAside q None b cs = (b ≡ Some q) × (cs ≡ [])
SetAside q (Some a) b cs = (b ≡ Some a) × (cs ≡ put_call q Ready ∷ [])

pub record PutsAside (k : HallTerms) (q : PackageView) (parts : Change DeskParts) : Type 0 where
  pub calls : List PassCall
  pub acted : Acted k calls (Pack q ∷ packed parts.old.aside) (packed parts.new.aside) parts
  pub set : SetAside q parts.old.aside parts.new.aside calls
  pub aside : (a : PackageView) → parts.new.aside ≡ Some a → IsAside k a
