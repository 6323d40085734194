use Rattle.std.proofs.Common.{Ok, ◌≡◌, ◌+◌, List, Bor, length, length-append, take, length-take-le, ◌∙◌, ap, sym, arith}
use Rattle.std.proofs.lemmas.Iterator.{YieldsList-from_slice}
use Rattle.std.proofs.lemmas.Iterator.Adapters.{fact_from_extend}
use Rattle.std.proofs.lemmas.List.{length-map}
use Rattle.std.specs.declared.alloc.AllocError.{AllocError}
use Rattle.tc_journal.specs.declared.block.Block.{Block}
use Rattle.tc_report.proofs.Rows.{count_more}
use Rattle.tc_report.proofs.row.row_of.Goals as goal

pub loop-log-preserved : goal.loop-log-preserved
loop-log-preserved c =
    let log : List Block = c.log-item.result.now in
    let had : List (Bor Block) = c.loop-log.row.items in
    let m = c.min-more.result in
    let more : length c.extend.new.self.items ≡ length had + length (take m log) =
    fact_from_extend {E = AllocError} {Q = length c.extend.new.self.items ≡ length had + length (take m log)} (λ (b : Bor Block). b.now) (Ok c.in_ok-extend.field-0) c.in_ok-extend.ensures.ran (λ it b. YieldsList-from_slice (take m log) cc)
    (λ xs e h. ap (λ (l : List (Bor Block)). length l) h.0 ∙ length-append had xs ∙ ap (λ k. length had + k) (sym (length-map xs (λ (b : Bor Block). b.now)) ∙ ap (λ (l : List Block). length l) e)) in
    let count = count_more c.args.logs.now c.loop-log.log-index c.log-item.result c.loop-log-test.true c.log-item.is in
    let within = length-take-le m log (omega arith) in
    omega (arith, more, count, within, c.loop-log.invariant)
