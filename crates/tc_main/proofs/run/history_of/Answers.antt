use Rattle.std.proofs.Common.{◌≡◌, sym, ap, ◌∙◌, subst}
use Rattle.std.specs.List.{flat_map}
use Rattle.std.specs.List.Sorted.{IsPermutation}
use Rattle.std.proofs.lemmas.Result.{IfOk-weaker}
use Rattle.tc_journal.specs.History.{HasEachStamp}
use Rattle.tc_report.specs.Outcome.{logs_of}
use Rattle.tc_main.proofs.Merging.{lent}
use Rattle.tc_main.proofs.run.history_of.Goals as goal

pub merge_lent-requires : goal.merge_lent-requires
merge_lent-requires c =
    let all : flat_map (λ log. log.now) c.deref.result.now ≡ logs_of c.args.packages.now = ap (λ logs. flat_map (λ log. log.now) logs) c.deref.ensures.value ∙ lent c.in_ok-logs.logs.items c.args.packages.now c.in_ok-logs.ensures in
    subst HasEachStamp (sym all) c.requires

pub returns-clause-blocks : goal.returns-clause-blocks
returns-clause-blocks c =
    let all : flat_map (λ log. log.now) c.deref.result.now ≡ logs_of c.args.packages.now = ap (λ logs. flat_map (λ log. log.now) logs) c.deref.ensures.value ∙ lent c.in_ok-logs.logs.items c.args.packages.now c.in_ok-logs.ensures in
    IfOk-weaker c.merge_lent.result _ _ (λ history same. subst (λ blocks. IsPermutation blocks history.items) all same) c.merge_lent.ensures.blocks
