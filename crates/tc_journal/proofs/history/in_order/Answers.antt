use Rattle.std.proofs.Common.{◌≡◌, ◌<◌, List, Bor, All, length, map, refl, sym, ap, subst, ◌∙◌, arith}
use Rattle.std.proofs.lemmas.List.{length-map, take_all}
use Rattle.std.specs.List.{flat_map}
use Rattle.std.specs.List.Sorted.{IsPermutation}
use Rattle.tc_journal.specs.declared.block.Block.{Block}
use Rattle.tc_journal.specs.History.{IsInOrder, placed}
use Rattle.tc_journal.proofs.Merged.{All-in_log, have_places, placed_all}
use Rattle.tc_journal.proofs.history.in_order.Goals as goal

pub loop-log-init : goal.loop-log-init
loop-log-init c = (refl, refl)

pub place-requires : goal.place-requires
place-requires c =
    let blocks : List Block = flat_map (λ (log : Bor (List Block)). log.now) c.args.logs.now in
    let start : List Block = map (λ (b : Bor Block). b.now) c.in_ok-history.history.items in
    let all : length start ≡ length blocks = ap (λ (bs : List Block). length bs) c.in_ok-history.ensures in
    let same : length start ≡ length c.in_ok-history.history.items = length-map c.in_ok-history.history.items (λ (b : Bor Block). b.now) in
    let long : length c.deref_mut.result.now ≡ length blocks = ap (λ (bs : List (Bor Block)). length bs) c.deref_mut.ensures.value ∙ (c.loop-log.invariant.0 ∙ (sym same ∙ all)) in
    subst (λ n. All (λ (b : Block). b.stamp < n) c.log-item.result.now) (sym long) (All-in_log (λ (b : Block). b.stamp < length blocks) (λ (log : Bor (List Block)). log.now) c.args.logs.now c.loop-log.log-index c.log-item.result c.loop-log-test.true c.log-item.is (have_places blocks c.requires))

pub returns-clause-blocks : goal.returns-clause-blocks
returns-clause-blocks c =
    let blocks : List Block = flat_map (λ (log : Bor (List Block)). log.now) c.args.logs.now in
    let start : List Block = map (λ (b : Bor Block). b.now) c.in_ok-history.history.items in
    let put : map (λ (b : Bor Block). b.now) c.loop-log.history.items ≡ placed start blocks =
    c.loop-log.invariant.1 ∙ ap (λ (logs : List (Bor (List Block))). placed start (flat_map (λ log. log.now) logs)) (take_all c.loop-log.log-index c.args.logs.now (omega arith)) in
    subst (IsPermutation blocks) (sym put) (placed_all start blocks c.requires (ap (λ (bs : List Block). length bs) c.in_ok-history.ensures)).0

pub returns-clause-order : goal.returns-clause-order
returns-clause-order c =
    let blocks : List Block = flat_map (λ (log : Bor (List Block)). log.now) c.args.logs.now in
    let start : List Block = map (λ (b : Bor Block). b.now) c.in_ok-history.history.items in
    let put : map (λ (b : Bor Block). b.now) c.loop-log.history.items ≡ placed start blocks =
    c.loop-log.invariant.1 ∙ ap (λ (logs : List (Bor (List Block))). placed start (flat_map (λ log. log.now) logs)) (take_all c.loop-log.log-index c.args.logs.now (omega arith)) in
    subst IsInOrder (sym put) (placed_all start blocks c.requires (ap (λ (bs : List Block). length bs) c.in_ok-history.ensures)).1
