use Rattle.std.proofs.Common.{◌+◌, ◌<◌, ◌∙◌, ◌++◌, ◌∷◌, [], ap, sym, length, map, take, arith, ℕ, List}
use Rattle.std.proofs.lemmas.List.{length-set, map-append, map-id, take_more_set}
use Rattle.std.proofs.lemmas.List.FromFn.{map-range_with_len_more}
use Rattle.std.specs.List.{range_with_len}
use Rattle.tc_journal.specs.declared.block.Block.{Block}
use Rattle.uses.proofs.checks.stamp.Goals as goal

pub loop-i-preserved : goal.loop-i-preserved
loop-i-preserved c =
    let i = c.loop-i.i in
    let l = c.loop-i.blocks in
    let low : i < length l = omega (arith, c.loop-i-test.true) in
    let stamps = λ (b : Block). b.stamp in record {
      stamps = ap (map stamps) (take_more_set l i _ low) ∙ map-append stamps (take i l) (_ ∷ []) ∙ ap (λ (s : List ℕ). s ++ i ∷ []) c.loop-i.invariant.stamps ∙ sym (sym (map-id (range_with_len 0 (i + 1))) ∙ map-range_with_len_more (λ (n : ℕ). n) 0 i i (omega arith) ∙ ap (λ (s : List ℕ). s ++ i ∷ []) (map-id (range_with_len 0 i)));
      count = length-set l i _ ∙ c.loop-i.invariant.count;
    }
