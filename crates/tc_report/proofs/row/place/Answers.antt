use Rattle.std.proofs.Common.{◌≡◌, ◌+◌, ◌-◌, ◌++◌, ◌∷◌, [], List, Bor, map, take, sym, ap, ◌∙◌}
use Rattle.std.specs.Prelude.{slice_set}
use Rattle.std.proofs.lemmas.List.{map-set, take_more}
use Rattle.tc_journal.specs.declared.block.Block.{Block}
use Rattle.tc_report.specs.Logs.{put_from}
use Rattle.tc_report.proofs.Rows.{put_more}
use Rattle.tc_report.proofs.row.place.Goals as goal

pub loop-block-preserved : goal.loop-block-preserved
loop-block-preserved c =
    let b : Block = c.block-item.result in
    let i = c.loop-block.block-index in
    let from = c.args.from in
    let blocks : List Block = c.args.blocks.now in
    let row : List Block = map (λ (x : Bor Block). x.now) c.args.row.now in
    let next : take (i + 1) blocks ≡ take i blocks ++ b ∷ [] = take_more blocks i b c.loop-block-test.true ∙ ap (λ (x : Block). take i blocks ++ x ∷ []) (sym c.block-item.is) in
    map-set (λ (x : Bor Block). x.now) c.loop-block.row (b.stamp - from) _
    ∙ ap (λ (r : List Block). slice_set r (b.stamp - from) b) c.loop-block.invariant
    ∙ put_more from row (take i blocks) (b ∷ [])
    ∙ ap (put_from from row) (sym next)
