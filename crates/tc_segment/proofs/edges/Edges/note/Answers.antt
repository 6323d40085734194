use Rattle.tc_segment.proofs.Vocabulary.{take, length, ap, ◌∙◌, arith, Edges, length-take}
use Rattle.tc_segment.proofs.Packing.{stands_beside}
use Rattle.tc_segment.proofs.edges.Edges.note.Goals as goal

pub returns : goal.returns
returns c =
    let made = c.make_row.ensures in
    let room = ap (λ (x : Edges). x.room) c.self.view_is in
    let stands = stands_beside _ _ c.write.ensures (ap (take c.self.inside.end) c.deref_mut.ensures.value ∙ made.same ∙ ap (λ (x : Edges). x.words) c.self.view_is) (omega (arith, length-take c.self.inside.end c.deref_mut.result.now, c.deref_mut.ensures.len, made.row)) (omega (arith, c.write.auto.row, c.write.ensures.few)) (omega (arith, made.row, c.write.ensures.few)) in
    record {
      place = stands.0;
      more = stands.1;
      room = omega (arith, room, made.capacity, c.write.ensures.few);
      behind = omega (arith, length-take c.self.inside.end c.self.inside.words.items, c.self.invariant.inside, ap (λ (x : Edges). length x.words) c.self.view_is);
    }
