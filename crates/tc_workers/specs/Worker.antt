-- What holds of a worker at work, and of its desk.
use Rattle.std.specs.Prelude.{◌≡◌, ◌≢◌, ℕ, ◌<◌, Bool, true, false, List, [], ◌∷◌, ◌++◌, All, length, Option, Some, None}
use mathlib.Core.Option.{some}
use lib.ListN.{get_elem?}
use Rattle.tc_elf.specs.Shown.{Shown}
use Rattle.tc_journal.specs.Batch.{last_of}
use Rattle.tc_journal.specs.Handing.{AreTogether, was_cut}
use Rattle.tc_journal.specs.declared.block.Block.{Block}
use Rattle.tc_journal.specs.declared.block.End.{End}
use Rattle.tc_context.specs.View.{PackageView, fits_of}
use Rattle.tc_hall.specs.declared.board.PassCall.{PassCall}
use Rattle.tc_hall.specs.declared.board.Knows.{Knows}
use Rattle.tc_hall.specs.declared.place.Place.TheVariants.{Ready}
use Rattle.tc_hall.specs.Outs.{Called, outs, nothing, Item, Pack}
use Rattle.tc_hall.specs.PassView.{PassView}
use Rattle.tc_hall.specs.Rule.{threads, grants_adopted, is_pinned, last_by}
use Rattle.tc_hall.specs.Standing.{standing_of, turns_of}
use Rattle.tc_hall.specs.Steps.{IsGrantedBehind, IsSamePass, HasSeenAll, HasStop, SawStopped, after_look, put_call}
use Rattle.tc_ready.specs.ReadyView.{ReadyView}
use Rattle.tc_ready.specs.Scan.{Looked}
use Rattle.tc_combiner.specs.Packages.{HasNoOther, IsGood, Runs}
use Rattle.tc_combiner.specs.Stances.{KnowsLines}
use Rattle.tc_combiner.specs.Walks.{Owns, packed}
use Rattle.tc_combiner.specs.View.{BenchView, DeskView, FitsBench}
use Rattle.tc_combiner.specs.Settling.{MaySettle}
use Rattle.tc_workers.specs.declared.step.Step.{Step}
use Rattle.tc_workers.specs.declared.step.Step.TheVariants.{On, AllDone, Stopped}
use Rattle.tc_workers.specs.declared.worker.Worker.{Worker}

-- what contracts see of a worker: its desk, and the threads that it may try next
pub record WorkerView : Type 0 where
  pub desk : DeskView
  pub ready : ReadyView

abbrev pub worker_of : DeskView → ReadyView → WorkerView
worker_of d r = record { desk = d; ready = r }

abbrev pub view_of : {Q S P : Type 0} → Worker Q S P → WorkerView
view_of w = worker_of w.desk w.ready

-- ---- what is out with a pass

-- these are out, each apart from the others, and nothing else
abbrev pub HasOut : Knows → List Item → Type 0
HasOut v xs = Owns nothing (outs v) xs

-- the same pass, of the same worker, with the same passes joined into it
pub record IsStill (p q : PassView) : Type 0 where
  pub own : IsSamePass p q
  pub image : q.knows.image ≡ p.knows.image
  pub worker : q.knows.worker ≡ p.knows.worker
  pub joined : q.knows.joined ≡ p.knows.joined

-- it has out what it had, sealed no block, and stands at the line of each lock as it did
pub record IsUnmoved (p q : PassView) : Type 0 where
  pub still : IsStill p q
  pub out : outs q.knows ≡ outs p.knows
  pub sealed : q.knows.sealed ≡ p.knows.sealed
  pub stands : (i : ℕ) → standing_of i q.knows.calls ≡ standing_of i p.knows.calls
  pub turns : (t : ℕ) → turns_of t q.knows.calls ≡ turns_of t p.knows.calls

-- ---- packages in hand

-- what a worker has in hand is fit to run
abbrev pub IsFit : Shown → ℕ → Option PackageView → Type 0
IsFit image worker None = Unit {0}
IsFit image worker (Some q) = IsGood q image worker

-- the package may run behind its worker's last block: where a lock was granted to it as Adopted, that block unlocked the lock; and
-- neither that block nor the package's own last one was cut, unless they are one
pub record RunsBehind (last : Option Block) (q : PackageView) : Type 0 where
  pub granted : IsGrantedBehind last q.granted
  pub together : AreTogether last (last_of q.log)

-- what comes behind a worker's last block: a package that may run there, or any other where that block was not cut
abbrev pub IsNext : Option Block → Option PackageView → Type 0
IsNext last None = was_cut last ≡ false
IsNext last (Some q) = RunsBehind last q

-- one that may be put back where the run was stopped: it fits the worker, unless its grant is Adopted
pub record MayGoBack (image : Shown) (worker : ℕ) (q : PackageView) : Type 0 where
  pub of : q.image ≡ image
  pub settled : q.pending ≡ None
  pub runs : Runs q
  pub locks : HasNoOther q
  pub fits : grants_adopted q.granted ≡ false → fits_of q worker ≡ true

abbrev pub MayAllGoBack : Shown → ℕ → Option PackageView → Type 0
MayAllGoBack image worker None = Unit {0}
MayAllGoBack image worker (Some q) = MayGoBack image worker q

-- the first n threads were looked at in order, and each had ended
pub record SawEnded (n : ℕ) (v w : Knows) : Type 0 where
  pub words : List ℕ
  pub count : length words ≡ n
  pub ended : All (λ x. x ≡ 2) words
  pub looked : Looked words v w
  pub seen : HasSeenAll n w

-- so it was up to one of the threads, which was seen not to have ended
pub record SawOneLeft (threads : ℕ) (v w : Knows) : Type 0 where
  pub thread : ℕ
  pub known : thread < threads
  pub between : Knows
  pub ended : SawEnded thread v between
  pub word : ℕ
  pub left : word ≢ 2
  pub looked : w ≡ after_look between thread word

-- ---- a worker at its desk

-- a desk at the bench: nothing is out but these and the package that is set aside
pub record IsSeated (b : BenchView) (xs : List Item) (d : DeskView) : Type 0 where
  pub fits : FitsBench b d
  pub sleepers : length d.sleepers ≡ threads b.hall.terms
  pub out : HasOut d.pass.knows (xs ++ packed d.aside)

-- one with this package in hand, where there is one: in a hall with lines it stands as that and the one set aside show
pub record IsAtDesk (b : BenchView) (hand : Option PackageView) (d : DeskView) : Type 0 where
  pub seat : IsSeated b (packed hand) d
  pub lines : KnowsLines b.hall.terms d.pass.knows (packed hand ++ packed d.aside)
  pub fit : IsFit d.pass.knows.image d.pass.knows.worker hand
  pub next : IsNext (last_by d.pass.knows) hand

-- a desk with nothing in hand and nothing set aside
pub record IsIdle (b : BenchView) (d : DeskView) : Type 0 where
  pub desk : IsAtDesk b None d
  pub free : d.aside ≡ None

-- a package was claimed, and nothing else is out; one that is pinned to one worker is noted as such. The worker's last block was
-- not cut
pub record HasClaimed (b : BenchView) (q : PackageView) (d : DeskView) : Type 0 where
  pub seat : IsSeated b (Pack q ∷ []) d
  pub lines : KnowsLines b.hall.terms d.pass.knows (Pack q ∷ packed d.aside)
  pub free : d.aside ≡ None
  pub uncut : was_cut (last_by d.pass.knows) ≡ false
  pub back : MayGoBack d.pass.knows.image d.pass.knows.worker q
  pub pinned : is_pinned q ≡ true → (t : ℕ) × (get_elem? d.pass.knows.pinned t ≡ some true)

-- the block of a package in hand was sealed, and ended so; it is the worker's last
pub record HasSealed (b : BenchView) (end : End) (q : PackageView) (d : DeskView) : Type 0 where
  pub seat : IsSeated b (Pack q ∷ []) d
  pub lines : KnowsLines b.hall.terms d.pass.knows (Pack q ∷ packed d.aside)
  pub newest : last_by d.pass.knows ≡ last_of q.log
  pub may : MaySettle b.image d.pass.knows.worker end q

-- all was put back
pub record HasLeft (d : DeskView) : Type 0 where
  pub aside : d.aside ≡ None
  pub out : HasOut d.pass.knows []

-- the desk looked at STOP, saw a stop or none, and did nothing else
pub record LookedAtStop (yes : Bool) (d e : DeskView) : Type 0 where
  pub own : IsSamePass d.pass e.pass
  pub saw : SawStopped yes d.pass.knows e.pass.knows
  pub rest : e ≡ record d { pass = e.pass }

-- ---- packages that are put back, since the run was stopped

abbrev pub put_back : Option PackageView → List PassCall
put_back None = []
put_back (Some q) = put_call q Ready ∷ []

-- the desk may put back this package, where there is one, and the one that is set aside: nothing else is out
pub record MayLeave (b : BenchView) (hand : Option PackageView) (d : DeskView) : Type 0 where
  pub seat : IsSeated b (packed hand) d
  pub may : MayAllGoBack d.pass.knows.image d.pass.knows.worker hand
  pub stop : HasStop d.pass.knows

-- the package was put back, where there was one, and nothing else was done
pub record DidPutBack (b : BenchView) (o : Option PackageView) (d e : DeskView) : Type 0 where
  pub still : IsStill d.pass e.pass
  pub told : Called (put_back o) d.pass.knows e.pass.knows
  pub may : MayLeave b None e
  pub rest : e ≡ record d { pass = e.pass }

-- it and the one that is set aside were put back, and nothing else was done
pub record DidLeave (hand : Option PackageView) (d e : DeskView) : Type 0 where
  pub still : IsStill d.pass e.pass
  pub told : Called (put_back hand ++ put_back d.aside) d.pass.knows e.pass.knows
  pub left : HasLeft e
  pub stop : HasStop e.pass.knows
  pub rest : e ≡ record d { pass = e.pass; aside = None }

-- after a step: it is at its desk with what it has in hand; or it has left, and has seen every thread Done, or that a stop was
-- made
abbrev pub IsStep : BenchView → DeskView → Step → Type 0
IsStep b d (On hand) = IsAtDesk b hand d
IsStep b d AllDone = HasLeft d × HasSeenAll (threads b.hall.terms) d.pass.knows
IsStep b d Stopped = HasLeft d × HasStop d.pass.knows

-- the desk did this step with its pass
pub record DeskSteps (b : BenchView) (d e : DeskView) (s : Step) : Type 0 where
  pub still : IsStill d.pass e.pass
  pub after : IsStep b e s

-- the worker did it, who may try as many threads as before
pub record WorkerSteps (b : BenchView) (x z : WorkerView) (s : Step) : Type 0 where
  pub desk : DeskSteps b x.desk z.desk s
  pub ready : z.ready.threads ≡ x.ready.threads

-- a worker at the bench, with this package in hand, where there is one
pub record IsAtWork (b : BenchView) (hand : Option PackageView) (w : WorkerView) : Type 0 where
  pub desk : IsAtDesk b hand w.desk
  pub ready : w.ready.threads ≡ threads b.hall.terms
