-- The steps of a worker, one after another, and its end.
use Rattle.std.specs.ControlFlow.{MatchControlFlow}
use Rattle.std.specs.Prelude.{◌≡◌, ◌⊎◌, ◌∷◌, ◌++◌, Bool, true, false, Option, Some, None}
use Rattle.std.specs.declared.ops.ControlFlow.{ControlFlow}
use Rattle.tc_context.specs.View.{PackageView}
use Rattle.tc_hall.specs.declared.board.PassCall.TheVariants.{Stopped as Seen}
use Rattle.tc_hall.specs.declared.board.HallTerms.{HallTerms}
use Rattle.tc_hall.specs.Outs.{Called}
use Rattle.tc_hall.specs.PassView.{PassView}
use Rattle.tc_hall.specs.Rule.{threads}
use Rattle.tc_hall.specs.Steps.{HasSeenAll, HasStop, IsFree}
use Rattle.tc_combiner.specs.View.{BenchView}
use Rattle.tc_workers.specs.StepWith.{StepsWith}
use Rattle.tc_workers.specs.Search.{Finds}
use Rattle.tc_workers.specs.Worker.{IsStill, LookedAtStop, WorkerSteps, WorkerView, put_back}
use Rattle.tc_workers.specs.declared.step.Step.{Step}
use Rattle.tc_workers.specs.declared.step.Step.TheVariants.{On, AllDone, Stopped}

-- it looked at STOP, and saw that no stop was made
pub record SawNoStop (x y : WorkerView) : Type 0 where
  pub desk : LookedAtStop false x.desk y.desk
  pub ready : y.ready ≡ x.ready

-- it goes on with the package in hand, where there is one, else it finds one
abbrev pub Proceeds : BenchView → Option PackageView → WorkerView → WorkerView → Step → Type 0
Proceeds b None y z s = Finds b y.desk.aside y z s
Proceeds b (Some q) y z s = StepsWith b.image q y z s

-- a step of a worker with this package in hand, where there is one: it looked at STOP, and where it saw the stop it put back all
-- that it had, and did nothing else; else it went on
pub data TakesStep (b : BenchView) (hand : Option PackageView) (x z : WorkerView) (s : Step) : Type 0 where
  leaves : Called (Seen 1 ∷ put_back hand ++ put_back x.desk.aside) x.desk.pass.knows z.desk.pass.knows → z.desk ≡ record x.desk { pass = z.desk.pass; aside = None } → z.ready ≡ x.ready → s ≡ Stopped → TakesStep b hand x z s
  proceeds : (y : WorkerView) → SawNoStop x y → Proceeds b hand y z s → TakesStep b hand x z s

-- a step was begun: it saw no stop, and has this package in hand, with which it goes on
pub record HasBegun (hand : Option PackageView) (q : PackageView) (x y : WorkerView) : Type 0 where
  pub hand_is : hand ≡ Some q
  pub saw : SawNoStop x y

-- no step was made, or one that left the worker with this in hand
pub record Reaches (b : BenchView) (hand : Option PackageView) (x : WorkerView) (at : Option PackageView) (y : WorkerView) : Type 0 where
  pub still : IsStill x.desk.pass y.desk.pass
  pub ready : y.ready.threads ≡ x.ready.threads
  pub first : ((at ≡ hand) × (y ≡ x)) ⊎ TakesStep b hand x y (On at)

-- a step was begun with a package, or made, and perhaps one before it
pub record Begins (b : BenchView) (hand : Option PackageView) (x z : WorkerView) (r : ControlFlow Step PackageView) : Type 0 where
  pub at : Option PackageView
  pub y : WorkerView
  pub reached : Reaches b hand x at y
  pub steps : MatchControlFlow r (λ p. WorkerSteps b y z (On (Some p))) (λ s. WorkerSteps b y z s)
  pub takes : MatchControlFlow r (λ p. HasBegun at p y z) (λ s. TakesStep b at y z s)

-- a step was made, and perhaps one before it
pub record MakesStep (b : BenchView) (hand : Option PackageView) (x z : WorkerView) (s : Step) : Type 0 where
  pub at : Option PackageView
  pub y : WorkerView
  pub reached : Reaches b hand x at y
  pub steps : WorkerSteps b y z s
  pub takes : TakesStep b at y z s

-- steps one after another of a worker who began as x with nothing in hand
pub data Steps (b : BenchView) (x : WorkerView) : Option PackageView → WorkerView → Type 0 where
  none : Steps b x None x
  more : (hand next : Option PackageView) (y z : WorkerView) → Steps b x hand y → TakesStep b hand y z (On next) → Steps b x next z

abbrev pub last_step : Bool → Step
last_step true = AllDone
last_step false = Stopped

-- such steps, and then a last one, after which this was its pass
pub record HasWorked (b : BenchView) (x : WorkerView) (p : PassView) (all_done : Bool) : Type 0 where
  pub hand : Option PackageView
  pub y : WorkerView
  pub steps : Steps b x hand y
  pub z : WorkerView
  pub last : TakesStep b hand y z (last_step all_done)
  pub pass : p ≡ z.desk.pass

-- a worker with the pass p has ended, in a hall of these terms: nothing is out, and it has seen every thread Done, or a stop was
-- made
pub record IsFinished (k : HallTerms) (p q : PassView) (all_done : Bool) : Type 0 where
  pub still : IsStill p q
  pub free : IsFree q.knows
  pub done : all_done ≡ true → HasSeenAll (threads k) q.knows
  pub stopped : all_done ≡ false → HasStop q.knows
