-- What a worker does with a package in hand, and what it comes to.
use Rattle.std.specs.Prelude.{◌≡◌, ◌≢◌, ℕ, ◌≤◌, ◌+◌, ◌-◌, ◌*◌, ◌^◌, min, List, [], ◌∷◌, ◌++◌, length, map, Some, None}
use Rattle.tc_isa.specs.declared.limits.TheConstants.{MAX_HELD}
use Rattle.tc_elf.specs.Shown.{Shown}
use Rattle.tc_journal.specs.declared.block.Block.{Block}
use Rattle.tc_journal.specs.declared.block.End.{End}
use Rattle.tc_context.specs.Ran.{DidRun}
use Rattle.tc_context.specs.View.{PackageView, HasBlock, IsRoomier, IsSoundPackage, WantIsGranted, with_seal}
use Rattle.tc_hall.specs.declared.board.PassCall.TheVariants.{Stop}
use Rattle.tc_hall.specs.Outs.{Called}
use Rattle.tc_hall.specs.Steps.{DidSeal}
use Rattle.tc_ready.specs.Rule.{thread_of}
use Rattle.tc_ready.specs.ReadyView.{ReadyView}
use Rattle.tc_combiner.specs.declared.settled.Settled.{Settled}
use Rattle.tc_combiner.specs.declared.settled.Settled.TheVariants.{GoesOn as Did_go_on, Adopted, Stopped as Was_stopped}
use Rattle.tc_combiner.specs.Packages.{Runs, Wants}
use Rattle.tc_combiner.specs.Settling.{HasAcquired, HasSettled}
use Rattle.tc_combiner.specs.View.{DeskView}
use Rattle.tc_workers.specs.Worker.{HasLeft, IsStill, WorkerView, put_back}
use Rattle.tc_workers.specs.declared.step.Step.{Step}
use Rattle.tc_workers.specs.declared.step.Step.TheVariants.{On, Stopped}

-- ---- by the desk's answer

abbrev pub step_of : Settled → Step
step_of (Did_go_on q) = On (Some q)
step_of (Adopted q) = On (Some q)
step_of Was_stopped = Stopped
step_of r = On None

-- these threads were offered, in order; some of the last were not only where the room for offers is used up
pub record HasOffered (ts : List ℕ) (r s : ReadyView) : Type 0 where
  pub threads : s.threads ≡ r.threads
  pub room : s.room ≡ r.room
  pub offered : List ℕ
  pub rest : List ℕ
  pub parts : ts ≡ offered ++ rest
  pub given : map thread_of s.given ≡ map thread_of r.given ++ offered
  pub full : rest ≢ [] → length s.given ≡ r.room

-- a thread with this fuel can have so many sections: each has a turn at its beginning and one at its end, but for the last
-- ones, which the thread's end may end
abbrev pub CanHave : ℕ → ℕ → Type 0
CanHave fuel sections = 2 * sections ≤ fuel + MAX_HELD

-- ---- a lock that is not granted

-- the package wants this lock, and has none granted
pub record AsksForLock (p : PackageView) (lock : ℕ) : Type 0 where
  pub wants : Wants p lock
  pub free : p.granted ≡ None

-- the desk was asked for the lock that the package wants, and the step is by its answer
pub record Acquires (p : PackageView) (d e : DeskView) (s : Step) : Type 0 where
  pub lock : ℕ
  pub asks : AsksForLock p lock
  pub answer : Settled
  pub acquired : HasAcquired p d e answer
  pub clock : e.now ≡ d.now
  pub step : s ≡ step_of answer

-- ---- a block

-- a block of the package may run, once there is room for it
pub record MayRun (image : Shown) (p : PackageView) : Type 0 where
  pub of : p.image ≡ image
  pub settled : p.pending ≡ None
  pub runs : Runs p
  pub want : WantIsGranted image p

-- there was room for a block of the package p, which ran and ended so, and the package is then q
pub record RanOne (image : Shown) (end : End) (p q : PackageView) : Type 0 where
  pub reserved : PackageView
  pub room : IsRoomier p reserved
  pub sound : IsSoundPackage reserved
  pub ran : DidRun image reserved q
  pub ended : HasBlock (λ (b : Block). b.end ≡ end) q.pending

-- so it was, and the block was sealed, at which the clock rises by 1, and nothing else was done
pub record HasRunBlock (image : Shown) (end : End) (p q : PackageView) (d e : DeskView) : Type 0 where
  pub pending : PackageView
  pub ran : RanOne image end p pending
  pub stamp : ℕ
  pub sealed : DidSeal pending stamp d.pass.knows e.pass.knows
  pub after : q ≡ with_seal stamp d.pass.knows.worker pending
  pub rest : e ≡ record d { pass = e.pass; now = min (d.now + 1) (2 ^ 64 - 1) }

-- a block of the package was run and settled by its end, and the step is by the desk's answer
pub record RunsBlock (image : Shown) (p : PackageView) (d e : DeskView) (s : Step) : Type 0 where
  pub end : End
  pub sealed : PackageView
  pub between : DeskView
  pub block : HasRunBlock image end p sealed d between
  pub answer : Settled
  pub settled : HasSettled end sealed between e answer
  pub clock : e.now ≡ between.now
  pub step : s ≡ step_of answer

-- there was no memory for a block of the package: a stop was made, and then all was put back
pub record GivesUp (p : PackageView) (d e : DeskView) : Type 0 where
  pub still : IsStill d.pass e.pass
  pub left : HasLeft e
  pub told : Called (Stop ∷ put_back (Some p) ++ put_back d.aside) d.pass.knows e.pass.knows
  pub rest : e ≡ record d { pass = e.pass; aside = None }

-- the package's next lock was asked for; or that lock was granted, and a block was run, or there was no memory for one (the
-- package may have got some room). The threads that were put as ready were offered
pub data StepsWith (image : Shown) (p : PackageView) (x z : WorkerView) (s : Step) : Type 0 where
  acquires : Acquires p x.desk z.desk s → HasOffered z.desk.handed x.ready z.ready → StepsWith image p x z s
  runs : WantIsGranted image p → RunsBlock image p x.desk z.desk s → HasOffered z.desk.handed x.ready z.ready → StepsWith image p x z s
  gives_up : WantIsGranted image p → (q : PackageView) → IsRoomier p q → GivesUp q x.desk z.desk → s ≡ Stopped → z.ready ≡ x.ready → StepsWith image p x z s
