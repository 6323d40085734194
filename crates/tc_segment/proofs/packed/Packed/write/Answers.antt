use Rattle.tc_segment.proofs.Vocabulary.{◌∷◌, ◌++◌, [], take, ap, sym, ◌∙◌, arith, get_or, take_more_set, length-take}
use Rattle.std.proofs.lemmas.List.{take_more}
use Rattle.std.proofs.lemmas.Simd.{length-put_chunk, take_more_put_chunk}
use Rattle.tc_segment.proofs.Packing.{packed_same}
use Rattle.tc_segment.proofs.packed.Packed.write.Goals as goal

pub returns-then-end-le8 : goal.returns-then-end-le8
returns-then-end-le8 c = packed_same 8 c.self.view_is c.self.invariant c.if-end-le8.true (take_more_put_chunk 0 c.args.row.now (take 8 c.self.inside.words) 8 (omega (arith, length-take 8 c.self.inside.words, c.self.told)) (omega (arith, c.requires)))

pub returns-else-end-le8 : goal.returns-else-end-le8
returns-else-end-le8 c =
    let xs = c.self.inside.words in
    let start = take_more_put_chunk 0 c.args.row.now (take 32 xs) 32 (omega (arith, length-take 32 xs, c.self.told)) (omega (arith, c.requires)) in
    packed_same 33 c.self.view_is c.self.invariant c.self.invariant.few (take_more_set _ 32 _ (omega (arith, length-put_chunk 0 c.args.row.now (take 32 xs), c.requires)) ∙ ap (λ ys. ys ++ get_or xs 32 0 ∷ []) start ∙ sym (take_more xs 32 0 (omega (arith, c.self.told))))
