use Rattle.std.proofs.Common.{List, refl, subst, arith}
use Rattle.tc_context.specs.View.{PackageView}
use Rattle.tc_report.specs.Outcome.{IsOutcome}
use Rattle.tc_main.proofs.Reporting.{stamps, outcome_is, legal_is, few_is, addable_is}
use Rattle.tc_main.proofs.run.run_whole.Goals as goal

pub history_of-requires : goal.history_of-requires
history_of-requires g c = stamps c.args.image.now c.args.options c.in_ok-closed.closed c.in_ok-closed.ensures.whole
    c.packages.result.now c.in_ok-closed.closed.locks c.packages.ensures refl

pub returns-clause-outcome : goal.returns-clause-outcome
returns-clause-outcome g c =
    let of : List PackageView → Type 0 = λ packages. IsOutcome c.args.image.now c.args.options.fuel c.in_ok-history.history.items packages c.in_ok-closed.closed.locks in
    subst of c.packages.ensures
    (outcome_is c.args.image.now c.args.options c.in_ok-closed.closed c.in_ok-closed.ensures.whole
    c.packages.result.now c.in_ok-closed.closed.locks c.packages.ensures refl
    c.in_ok-history.history.items c.in_ok-history.ensures.blocks c.in_ok-history.ensures.order)

pub returns-clause-legal : goal.returns-clause-legal
returns-clause-legal g c = legal_is c.args.image.now c.args.options c.in_ok-closed.closed c.in_ok-closed.ensures.whole
    c.packages.result.now c.in_ok-closed.closed.locks c.packages.ensures refl
    c.in_ok-history.history.items c.in_ok-history.ensures.blocks c.in_ok-history.ensures.order c.in_ok-closed.ensures.sound

pub returns-clause-few : goal.returns-clause-few
returns-clause-few g c = few_is c.args.image.now c.args.options c.in_ok-closed.closed c.in_ok-closed.ensures.whole
    c.packages.result.now c.in_ok-closed.closed.locks c.packages.ensures refl
    c.in_ok-history.history.items c.in_ok-history.ensures.blocks c.in_ok-history.ensures.order
    (let threads = c.threads-threads.ensures.value in let bound = c.threads-threads.ensures.bound in record { threads = omega arith; turns = c.args.options.most_fuel })

pub returns-clause-addable : goal.returns-clause-addable
returns-clause-addable g c = addable_is c.args.image.now c.args.options c.in_ok-closed.closed c.in_ok-closed.ensures.whole
    c.packages.result.now c.in_ok-closed.closed.locks c.packages.ensures refl
    c.in_ok-history.history.items c.in_ok-history.ensures.blocks c.in_ok-history.ensures.order
