use Rattle.tc_turn.proofs.Vocabulary.{◌+◌, ap, ◌∙◌, sym, ◌++◌, ◌∷◌, [], refl, unwrap_or, starting_byte, starting_bytes, map-range_with_len_more}
use Rattle.tc_turn.proofs.memory.single_bytes.Goals as goal

pub loop-i-preserved : goal.loop-i-preserved
loop-i-preserved c =
    let image = c.args.image.now in
    let bytes = starting_bytes image c.args.start c.loop-i.i in
    c.in_ok-push.ensures.items
    ∙ ap (λ bytes. bytes ++ c.unwrap_or.result ∷ []) c.loop-i.invariant
    ∙ ap (λ byte. bytes ++ byte ∷ []) (c.unwrap_or.ensures ∙ ap (λ o. unwrap_or o 0) c.byte.ensures)
    ∙ sym (map-range_with_len_more (starting_byte image) c.args.start c.loop-i.i (c.args.start + c.loop-i.i) refl)
