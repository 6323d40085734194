use Rattle.std.proofs.Common.{◌≡◌, Break, Option, Some, None, inl, inr, refl, subst, ap, ◌∙◌}
use Rattle.tc_context.specs.View.{PackageView}
use Rattle.tc_combiner.specs.View.{BenchView}
use Rattle.tc_workers.specs.Turns.{Begins, TakesStep}
use Rattle.tc_workers.specs.Worker.{WorkerSteps, WorkerView, view_of}
use Rattle.tc_workers.specs.declared.step.Step.{Step}
use Rattle.tc_workers.specs.declared.step.Step.TheVariants.{On}
use Rattle.tc_workers.proofs.Passes.{still_same}
use Rattle.tc_workers.proofs.work.begin.Goals as goal

-- no step came before it
alone : (b : BenchView) (hand : Option PackageView) (x z : WorkerView) (s t : Step) → s ≡ t → WorkerSteps b x z s → TakesStep b hand x z s → Begins b hand x z (Break t)
alone b hand x z s t is steps takes = record { at = hand; y = x; reached = record { still = still_same x.desk.pass; ready = refl; first = inl (refl, refl) }; steps = subst (WorkerSteps b x z) is steps; takes = subst (TakesStep b hand x z) is takes }

pub returns-then-is_asked : goal.returns-then-is_asked
returns-then-is_asked g c =
    let came = c.in-Break-On-Some in
    alone c.args.bench.now c.args.hand (view_of c.args.worker.now) (view_of c.begin_step.new.worker) came.field-0 (On (Some came.package)) (came.field-0-is ∙ ap On came.field-0-0-is) came.ensures.steps came.ensures.takes

pub returns-else-is_asked : goal.returns-else-is_asked
returns-else-is_asked g c =
    let b = c.args.bench.now in
    let x = view_of c.args.worker.now in
    let y = view_of c.begin_step.new.worker in
    let came = c.in-Break-On-Some in
    let is : came.field-0 ≡ On (Some came.package) = came.field-0-is ∙ ap On came.field-0-0-is in
    let did = subst (WorkerSteps b x y) is came.ensures.steps in
    record {
      at = Some came.package;
      y = y;
      reached = record { still = did.desk.still; ready = did.ready; first = inr (subst (TakesStep b c.args.hand x y) is came.ensures.takes) };
      steps = c.begin_step-in-Break-On-Some.ensures.steps;
      takes = c.begin_step-in-Break-On-Some.ensures.takes;
    }

pub returns-in-Break-On-None : goal.returns-in-Break-On-None
returns-in-Break-On-None g c =
    let came = c.in-Break-On-None in
    alone c.args.bench.now c.args.hand (view_of c.args.worker.now) (view_of c.begin_step.new.worker) came.field-0 (On None) (came.field-0-is ∙ ap On came.field-0-0-is) came.ensures.steps came.ensures.takes

pub returns-in-Break : goal.returns-in-Break
returns-in-Break g c = alone c.args.bench.now c.args.hand (view_of c.args.worker.now) (view_of c.begin_step.new.worker) c.in-Break.step c.in-Break.step refl c.in-Break.ensures.steps c.in-Break.ensures.takes
