use Rattle.tc_turn.proofs.Vocabulary.{◌∙◌, ap, sym, set, arith, Part, part_with, put_number}
use Rattle.std.proofs.lemmas.List.Edits.{map_over_more}
use Rattle.tc_turn.proofs.PartLaws.{part_written}
use Rattle.tc_turn.proofs.memory.put_in_parts.Goals as goal

pub loop-part-preserved : goal.loop-part-preserved
loop-part-preserved c =
    let f : Part → Part = part_with c.args.addr c.args.width c.args.value in
    let l = c.loop-part in
    let part = c.part.inside in
    let bytes = c.put_number.ensures ∙ ap (λ bs. put_number part.start bs c.args.addr c.args.width c.args.value) c.deref_mut.ensures.value in
    ap (λ x. set l.parts l.part-index x)
    (part_written part.start part.bytes c.put_number.new.bytes c.args.addr c.args.width c.args.value (omega (arith, c.put_number.auto.bytes, c.deref_mut.ensures.len)) bytes
    ∙ ap f (c.part.view_is ∙ sym c.part-item.is))
    ∙ map_over_more f c.args.parts.now l.parts l.part-index c.part-item.result c.loop-part-test.true l.invariant c.part-item.is
