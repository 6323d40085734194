-- What `settle` requires of a package, and what becomes of it by the end of its last block.
use Rattle.std.specs.Prelude.{◌≡◌, ◌≢◌, ℕ, ◌+◌, ◌-◌, ◌^◌, min, true, List, [], ◌∷◌, ◌++◌, length, slice_set, Option, Some, None, is_some}
use Rattle.tc_combiner.specs.Vocabulary.{AllowsPending, AreTogether, Block, PassCall, Cut, DidRun, Did_park, End, GoesOn, HallView, DeskParts, HandsPending, IsSamePass, Knows, Pack, PackageView, Parked, Settled, Shown, Slept, HallTerms, Unlocked, Wants, has, last_by, last_of, locked_in, locks_of, put_call, threads, want_of}
use Rattle.tc_combiner.specs.Packages.{HasOnlyHeld, IsAside, IsGoodFor}
use Rattle.tc_combiner.specs.Walks.{Moves, Owned, packed, Asks, Acts, Adds, IsAtHall, LooksEachTime}
use Rattle.tc_combiner.specs.Answers.{AcquiredAs, HasReadied, carried}
use Rattle.tc_combiner.specs.Release.{UnlockedAs, turn_of, AreSameSeats, EndedAs, SeatsLeft}
use Rattle.tc_combiner.specs.Stances.{IfRuns, KnowsLines, WasReady}
use Rattle.tc_combiner.specs.Change.{change}
use Rattle.tc_combiner.specs.Steps.{at_lock, by_desk}
use Rattle.tc_combiner.specs.View.{BenchView, DeskView, FitsBench, seat_at}

-- the package is current at the desk, apart from the one that is set aside
abbrev pub IsInHand : DeskView → PackageView → Type 0
IsInHand d q = Owned d.pass.knows (Pack q ∷ packed d.aside)

-- the same of the parts of a desk, whose pass stands at the lines as the package and the one that is set aside show
pub record HasInHand (hall : HallView) (q : PackageView) (h : DeskParts) : Type 0 where
  pub at : IsAtHall hall (Pack q ∷ packed h.aside) h
  pub lines : KnowsLines hall.terms h.pass.knows (Pack q ∷ packed h.aside)

-- after an answer it stands as what is in hand then and what is set aside show, unless the run was stopped
abbrev pub StandsAfter : HallTerms → Knows → Option PackageView → Settled → Type 0
StandsAfter k v aside r = IfRuns r (KnowsLines k v (carried r ++ packed aside))

-- a desk keeps its pass, its clock, and its places for sleepers
pub record Works (d e : DeskView) : Type 0 where
  pub own : IsSamePass d.pass e.pass
  pub now : e.now ≡ d.now
  pub room : length e.sleepers ≡ length d.sleepers

-- the desk reports the threads that it put as ready in the call, in order; none if the run was stopped
abbrev pub TellsReady : HallTerms → Settled → DeskView → DeskView → Type 0
TellsReady k r d e = (cs : List PassCall) × Adds cs d.pass.knows e.pass.knows × HasReadied (threads k) r [] e.handed cs

-- what a call of a desk with the current package q keeps and says; out then are its answer and what is set aside
pub record Keeps (b : BenchView) (q : PackageView) (d e : DeskView) (r : Settled) : Type 0 where
  pub works : Works d e
  pub moves : Moves d.pass.knows e.pass.knows (Pack q ∷ packed d.aside) (carried r ++ packed e.aside)
  pub readied : TellsReady b.hall.terms r d e
  pub lines : StandsAfter b.hall.terms e.pass.knows e.aside r
  pub fits : FitsBench b e

-- the same for the parts of a desk
pub record KeepsParts (k : HallTerms) (q : PackageView) (d e : DeskView) (r : Settled) : Type 0 where
  pub calls : List PassCall
  pub acts : Acts calls (Pack q ∷ packed d.aside) (carried r ++ packed e.aside) d.pass e.pass
  pub readied : HasReadied (threads k) r [] e.handed calls
  pub lines : StandsAfter k e.pass.knows e.aside r
  pub aside : (c : PackageView) → e.aside ≡ Some c → IsAside k c
  pub seats : AreSameSeats d.seats e.seats
  pub clock : e.now ≡ d.now
  pub room : length e.sleepers ≡ length d.sleepers

-- a block made the package of the desk's current one, the batch rule allows it the desk's worker, and it
-- follows the block by which that worker handed the lock over; after a cut, worker and thread go on together
pub record MayCommit (k : HallTerms) (d : DeskView) (q : PackageView) : Type 0 where
  pub before : PackageView
  pub ready : WasReady k d.pass.knows before (packed d.aside)
  pub hand : IsInHand d before
  pub ran : DidRun d.pass.knows.image before q
  pub allows : AllowsPending q d.pass.knows.worker
  pub handed : HandsPending d.pass.knows q
  pub together : AreTogether (last_by d.pass.knows) (last_of before.log)

-- once it is sealed: whoever had the old package out has the sealed one out, and what else is out is unchanged
abbrev pub MovesSealed : PackageView → PackageView → DeskView → DeskView → Type 0
MovesSealed q sealed d e = (p : PackageView) → DidRun d.pass.knows.image p q → Moves d.pass.knows e.pass.knows (Pack p ∷ []) (Pack sealed ∷ [])

-- and the pass stands as it shows
pub record KeepsSealed (k : HallTerms) (q sealed : PackageView) (d e : DeskView) : Type 0 where
  pub moves : MovesSealed q sealed d e
  pub lines : KnowsLines k e.pass.knows (Pack sealed ∷ packed e.aside)

-- a package that wants a lock, and has nothing granted and no lock except held ones
pub record MayAcquire (image : Shown) (q : PackageView) : Type 0 where
  pub of : q.image ≡ image
  pub settled : q.pending ≡ None
  pub granted : q.granted ≡ None
  pub locks : HasOnlyHeld q
  pub wants : is_some (want_of q.image q.context) ≡ true

-- package q is current after its last block b, of this worker and with this end; the locks in it
-- are those of the block: the held ones and those that it released
pub record IsAfterBlock (image : Shown) (worker : ℕ) (end : End) (b : Block) (q : PackageView) : Type 0 where
  pub of : q.image ≡ image
  pub settled : q.pending ≡ None
  pub granted : q.granted ≡ None
  pub last : last_of q.log ≡ Some b
  pub end_is : b.end ≡ end
  pub worker_is : b.worker ≡ worker
  pub locks : (i : ℕ) → is_some (locked_in q i) ≡ has b.held i

abbrev pub MaySettle : Shown → ℕ → End → PackageView → Type 0
MaySettle image worker end q = (b : Block) × IsAfterBlock image worker end b q

-- the other seats and the sleepers are unchanged
pub record IsSameBut (i : ℕ) (d e : DeskView) : Type 0 where
  pub others : (j : ℕ) → j ≢ i → seat_at e.seats j ≡ seat_at d.seats j
  pub sleepers : e.sleepers ≡ d.sleepers

-- what became of the package q, which wants lock i: with these calls of the pass and no others, as
-- in the records below; for each failed try of the desk there was a check of STOP
pub record DidAcquire (i : ℕ) (q : PackageView) (d e : DeskView) (r : Settled) : Type 0 where
  pub same : IsSameBut i d e
  pub calls : List PassCall
  pub adds : Adds calls d.pass.knows e.pass.knows
  pub looks : LooksEachTime 0 d.pass.knows e.pass.knows (change d.seats e.seats)
  pub acquired : AcquiredAs (at_lock i (by_desk q d e)) i calls r

-- of one whose block b unlocked lock i: the seat has asked only for its turn; for each failed try,
-- except the first question who is behind, there was a check of STOP
pub record DidUnlock (i : ℕ) (q : PackageView) (b : Block) (d e : DeskView) (r : Settled) : Type 0 where
  pub same : IsSameBut i d e
  pub asks : Asks (turn_of q i) (seat_at d.seats i) (seat_at e.seats i)
  pub calls : List PassCall
  pub adds : Adds calls d.pass.knows e.pass.knows
  pub looks : LooksEachTime 1 d.pass.knows e.pass.knows (change d.seats e.seats)
  pub unlocked : UnlockedAs (at_lock i (by_desk q d e)) i b calls r

-- of one that sleeps: it was put as Parked, and its thread is due so many blocks from now
pub record DidPark (q : PackageView) (d e : DeskView) : Type 0 where
  pub seats : e.seats ≡ d.seats
  pub aside : e.aside ≡ d.aside
  pub adds : Adds (put_call q Parked ∷ []) d.pass.knows e.pass.knows
  pub sleeper : e.sleepers ≡ slice_set d.sleepers q.context.thread (Some (min (d.now + q.slept) (2 ^ 64 - 1)))

-- of one whose thread ended with the block b: each seat of a lock of that block has asked only for
-- its turn; for each failed try, except the first question at each lock, there was a check of STOP
pub record DidEnd (q : PackageView) (b : Block) (d e : DeskView) (r : Settled) : Type 0 where
  pub sleepers : e.sleepers ≡ d.sleepers
  pub seats : SeatsLeft b q d.seats e.seats
  pub calls : List PassCall
  pub adds : Adds calls d.pass.knows e.pass.knows
  pub looks : LooksEachTime (length (locks_of b.held)) d.pass.knows e.pass.knows (change d.seats e.seats)
  pub ended : EndedAs (by_desk q d e) b calls r

-- it goes on, and nothing was done
abbrev pub DidNothing : PackageView → DeskView → DeskView → Settled → Type 0
DidNothing q d e (GoesOn p) = (p ≡ q) × (e ≡ record d { handed = [] }) × IsGoodFor e.pass.knows q
DidNothing q d e r = ⊥

abbrev pub DidSleep : PackageView → DeskView → DeskView → Settled → Type 0
DidSleep q d e Did_park = DidPark q d e
DidSleep q d e r = ⊥

-- this holds of the lock at whose LOCK the block ended, if it did
abbrev pub IfWants : End → (ℕ → Type 0) → Type 0
IfWants x P = (i : ℕ) → x ≡ Wants i → P i

-- of one whose last block is b
abbrev pub SettledAs : End → PackageView → Block → DeskView → DeskView → Settled → Type 0
SettledAs (Wants i) q b d e r = DidAcquire i q d e r
SettledAs (Unlocked i) q b d e r = DidUnlock i q b d e r
SettledAs Slept q b d e r = DidSleep q d e r
SettledAs Cut q b d e r = DidNothing q d e r
SettledAs end q b d e r = DidEnd q b d e r

-- the lock that a package wants was acquired
abbrev pub HasAcquired : PackageView → DeskView → DeskView → Settled → Type 0
HasAcquired q d e r = (i : ℕ) × (want_of q.image q.context ≡ Some i) × DidAcquire i q d e r

-- a package was settled by the end of its last block
abbrev pub HasSettled : End → PackageView → DeskView → DeskView → Settled → Type 0
HasSettled end q d e r = (b : Block) × (last_of q.log ≡ Some b) × SettledAs end q b d e r
