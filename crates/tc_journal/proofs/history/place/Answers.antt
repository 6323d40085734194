use Rattle.std.proofs.Common.{◌≡◌, ◌+◌, ◌++◌, ◌∷◌, [], List, Bor, map, take, sym, ap, ◌∙◌}
use Rattle.std.specs.Prelude.{slice_set}
use Rattle.std.proofs.lemmas.List.{length-set, map-set, take_more}
use Rattle.tc_journal.specs.declared.block.Block.{Block}
use Rattle.tc_journal.specs.History.{placed}
use Rattle.tc_journal.proofs.Merged.{placed_more}
use Rattle.tc_journal.proofs.history.place.Goals as goal

pub loop-block-preserved : goal.loop-block-preserved
loop-block-preserved c =
    let b : Block = c.block-item.result in
    let i = c.loop-block.block-index in
    let log : List Block = c.args.log.now in
    let start : List Block = map (λ (x : Bor Block). x.now) c.args.history.now in
    let next : take (i + 1) log ≡ take i log ++ b ∷ [] = take_more log i b c.loop-block-test.true ∙ ap (λ (x : Block). take i log ++ x ∷ []) (sym c.block-item.is) in (
      length-set c.loop-block.history b.stamp _ ∙ c.loop-block.invariant.0,
      map-set (λ (x : Bor Block). x.now) c.loop-block.history b.stamp _
          ∙ (ap (λ (h : List Block). slice_set h b.stamp b) c.loop-block.invariant.1
          ∙ (placed_more start (take i log) (b ∷ []) ∙ ap (placed start) (sym next))),
    )
