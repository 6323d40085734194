use Rattle.std.proofs.Common.{rules, ◌∙◌, ◌++◌, Some, refl, ap, sym, subst}
use Rattle.tc_elf.specs.Shown.{Shown}
use Rattle.tc_context.specs.View.{WantIsGranted}
use Rattle.tc_combiner.specs.View.{BenchView, DeskView}
use Rattle.tc_workers.specs.StepWith.{GivesUp, gives_up}
use Rattle.tc_workers.specs.Worker.{IsStep, put_back}
use Rattle.tc_workers.specs.declared.step.Step.{Step}
use Rattle.tc_workers.proofs.Desks.{after_settle}
use Rattle.tc_workers.proofs.step_with.step_with.Goals as goal
use Rattle.tc_hall.proofs.Stops.{stop_told}

pub returns-in-Err-clause-steps : goal.returns-in-Err-clause-steps
returns-in-Err-clause-steps g c =
    let d = c.seal_block.new.desk in
    let stop = stop_told d.pass.knows c.give_up.new.desk.pass.knows (put_back (Some c.seal_block.new.«package») ++ put_back d.aside) c.give_up.ensures.told.calls in
    record { desk = record { still = search rules; after = (c.give_up.ensures.left, stop) }; ready = search rules }

pub returns-in-Err-clause-steps_with : goal.returns-in-Err-clause-steps_with
returns-in-Err-clause-steps_with g c = gives_up (subst (λ (i : Shown). WantIsGranted i c.args.«package») (ap (λ (b : BenchView). b.image) c.bench.view_is) c.in_default.ensures) c.seal_block.new.«package» c.in-Err.ensures.ran.0
    (subst (λ (d : DeskView). GivesUp c.seal_block.new.«package» d c.give_up.new.desk) (c.in-Err.ensures.ran.1 ∙ c.number-number.ensures.same) c.give_up.ensures) refl refl

pub returns-in-Ok-clause-steps : goal.returns-in-Ok-clause-steps
returns-in-Ok-clause-steps g c =
    let e = c.settle-settled.new.self in
    let did = c.settle-settled.ensures in
    let after = subst (λ (s : Step). IsStep c.args.bench.now e s) (sym c.conclude.ensures.step) (after_settle c.args.bench.now c.seal_block.new.«package» c.seal_block.new.desk e c.settle-settled.result did.keeps c.in-Ok.end c.in-Ok.ensures.sealed did.settled) in
    search rules
