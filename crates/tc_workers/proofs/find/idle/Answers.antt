use Rattle.std.proofs.Common.{rules, ℕ, List, Option, None, length, max, sym, ap, ◌∙◌, subst}
use Rattle.tc_park.specs.Order.{IsLeast}
use Rattle.tc_combiner.specs.View.{DeskView}
use Rattle.tc_workers.specs.Search.{sleeps}
use Rattle.tc_workers.specs.Worker.{IsAtDesk}
use Rattle.tc_workers.proofs.Desks.{other_sleepers}
use Rattle.tc_workers.proofs.find.idle.Goals as goal

pub returns-in-Some-clause-pause : goal.returns-in-Some-clause-pause
returns-in-Some-clause-pause g c = sleeps c.in-Some.due (subst (λ (s : List (Option ℕ)). IsLeast s c.in-Some.due) c.sleepers.ensures.value c.in-Some.ensures) (c.advance.ensures ∙ (λ i. record c.args.desk.now { sleepers = c.sleepers.ensures.value i; now = (c.max.ensures ∙ ap (max c.in-Some.due) c.now-now.ensures) i }))

pub returns-in-Some-clause-steps : goal.returns-in-Some-clause-steps
returns-in-Some-clause-steps g c = record {
  still = search rules;
  after = subst (λ (d : DeskView). IsAtDesk c.args.bench.now None d) (sym c.advance.ensures) (other_sleepers c.args.bench.now c.args.desk.now c.sleepers.result.now c.max.result c.requires.idle.desk (ap (λ (s : List (Option ℕ)). length s) c.sleepers.ensures.value));
}
