use Rattle.std.proofs.Common.{◌≡◌, ◌/◌, ◌^◌, ◌<◌, ◌==◌, not, suc, sym, ap, subst, ◌∙◌, arith, w32, Fits, ◌∷◌, length}
use Rattle.std.proofs.lemmas.Simd.{tops_compared}
use Rattle.tc_segment.proofs.Vocabulary.{mask_of, usual}
use Rattle.tc_segment.proofs.Packing.{mask_read, mask_less, mask_first, usual_count}
use Rattle.tc_segment.proofs.packed.mask_of.Goals as goal

pub overflow_cast-result : goal.overflow_cast-result
overflow_cast-result c =
    let words = c.args.words.now in
    let us = c.usual.result in
    let count : length us ≡ 32 = ap length c.usual.ensures ∙ ap suc usual_count in
    let less : mask_of us words < 2 ^ 32 = mask_less us words 32 (omega (arith, c.told-words)) in
    let half : Fits w32 (mask_of us words / 2) = omega (arith, less) in
    subst (λ m. Fits w32 (m / 2)) (sym (mask_read us words _ (c.told-words ∙ sym count) (omega (arith, count)) (tops_compared w32 (λ a b. not (a == b)) words us))) half

pub returns : goal.returns
returns c =
    let words = c.args.words.now in
    let us = c.usual.result in
    let count : length us ≡ 32 = ap length c.usual.ensures ∙ ap suc usual_count in
    ap (λ m. m / 2) (mask_read us words _ (c.told-words ∙ sym count) (omega (arith, count)) (tops_compared w32 (λ a b. not (a == b)) words us) ∙ ap (λ xs. mask_of xs words) c.usual.ensures) ∙ mask_first usual words 31 c.told-words c.requires
