use Rattle.std.proofs.Common.{◌≡◌, List, Bor, drop, length, map, ap, ◌∙◌, arith}
use Rattle.std.proofs.lemmas.List.{take_all, take-append-le}
use Rattle.tc_journal.specs.declared.block.Block.{Block}
use Rattle.tc_journal.proofs.Merged.{length_placed}
use Rattle.tc_report.specs.Logs.{blocks_in, merged}
use Rattle.tc_report.proofs.row.whole_row.Goals as goal

pub returns : goal.returns
returns c =
    let new : List (Bor Block) = c.fill_row.new.row in
    let n = c.in_ok-row.row.len in
    let old : List (Bor Block) = c.deref_mut.result.now in
    let long : n ≡ length new = omega (arith, c.in_ok-row.row.ok.0, c.deref_mut.ensures.len) in
    let all = length_placed (blocks_in c.args.logs.now) (blocks_in c.args.logs.now) in
    ap (map (λ (b : Bor Block). b.now)) (take-append-le n new (drop (length new) c.in_ok-row.row.items) (omega (arith, long)) ∙ take_all n new (omega (arith, long)))
    ∙ c.fill_row.ensures
    ∙ take_all (length old) (merged c.args.logs.now) (omega (arith, all, long, c.in_ok-row.ensures, c.count_of.ensures))
