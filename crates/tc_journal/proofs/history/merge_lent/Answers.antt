use Rattle.std.proofs.Common.{rules, ◌≡◌, IfOk, Bor, map, sym, subst}
use Rattle.std.proofs.lemmas.Iterator.{YieldsList-from_slice, YieldsList-from_map, items_from_collect}
use Rattle.std.proofs.lemmas.Result.{IfOk-weaker}
use Rattle.std.specs.List.{flat_map}
use Rattle.std.specs.List.Sorted.{IsPermutation}
use Rattle.tc_journal.specs.declared.block.Block.{Block}
use Rattle.tc_journal.specs.History.{IsInOrder}
use Rattle.tc_journal.proofs.history.merge_lent.Goals as goal

pub returns-clause-blocks : goal.returns-clause-blocks
returns-clause-blocks c =
    let copied : IfOk c.collect.result (λ history. history.items ≡ map (λ (b : Bor Block). b.now) c.in_ok-in_order.field-0.items) =
    items_from_collect c.collect.result c.collect.ensures.ran (YieldsList-from_map _ (λ (b : Bor Block). b.now) (YieldsList-from_slice _ cc) c.map.ensures.closure (λ x r q k. search rules)) in
    IfOk-weaker c.collect.result _ _ (λ history same. subst (IsPermutation (flat_map (λ log. log.now) c.args.logs.now)) (sym same) c.in_ok-in_order.ensures.blocks) copied

pub returns-clause-order : goal.returns-clause-order
returns-clause-order c =
    let copied : IfOk c.collect.result (λ history. history.items ≡ map (λ (b : Bor Block). b.now) c.in_ok-in_order.field-0.items) =
    items_from_collect c.collect.result c.collect.ensures.ran (YieldsList-from_map _ (λ (b : Bor Block). b.now) (YieldsList-from_slice _ cc) c.map.ensures.closure (λ x r q k. search rules)) in
    IfOk-weaker c.collect.result _ _ (λ history same. subst IsInOrder (sym same) c.in_ok-in_order.ensures.order) copied
