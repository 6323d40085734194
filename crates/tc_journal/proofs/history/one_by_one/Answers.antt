use Rattle.std.proofs.Common.{Ok, ◌≡◌, ◌++◌, List, Bor, map, ◌∙◌, ap, arith}
use Rattle.std.proofs.lemmas.Grind.{common_steps}
use Rattle.std.proofs.lemmas.Iterator.{YieldsList-from_slice}
use Rattle.std.proofs.lemmas.Iterator.Adapters.{fact_from_extend}
use Rattle.std.proofs.lemmas.List.{take_all, map-append}
use Rattle.std.specs.List.{flat_map}
use Rattle.std.specs.declared.alloc.AllocError.{AllocError}
use Rattle.tc_journal.specs.declared.block.Block.{Block}
use Rattle.tc_journal.proofs.history.one_by_one.Goals as goal

pub loop-log-preserved : goal.loop-log-preserved
loop-log-preserved c =
    let log : List Block = c.log-item.result.now in
    let had : List Block = map (λ (b : Bor Block). b.now) c.loop-log.blocks.items in
    let more : map (λ (b : Bor Block). b.now) c.extend.new.self.items ≡ had ++ log =
    fact_from_extend {E = AllocError} {Q = map (λ (b : Bor Block). b.now) c.extend.new.self.items ≡ had ++ log} (λ (b : Bor Block). b.now) (Ok c.in_ok-extend.field-0) c.in_ok-extend.ensures.ran (λ it b. YieldsList-from_slice log cc)
    (λ xs e h. ap (map (λ (b : Bor Block). b.now)) h.0 ∙ map-append (λ (b : Bor Block). b.now) c.loop-log.blocks.items xs ∙ ap (λ bs. had ++ bs) e) in
    grind (arith, common_steps)

pub returns : goal.returns
returns c = c.loop-log.invariant ∙ ap (λ logs. flat_map (λ log. log.now) logs) (take_all c.loop-log.log-index c.args.logs.now (omega arith))
