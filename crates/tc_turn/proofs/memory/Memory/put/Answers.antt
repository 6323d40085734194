use Rattle.tc_turn.proofs.Vocabulary.{◌≡◌, List, map, length, ap, sym, subst, ◌∙◌, arith, with_items_is, Part, part_with, AreApart}
use Rattle.tc_turn.proofs.PartLaws.{apart_kept}
use Rattle.tc_turn.proofs.MemoryLaws.{parts_put}
use Rattle.tc_turn.proofs.memory.Memory.put.Goals as goal

pub put_near-requires-clause-apart : goal.put_near-requires-clause-apart
put_near-requires-clause-apart c = subst AreApart (sym c.deref_mut.ensures.value) c.self.invariant

pub invariant_of-self : goal.invariant_of-self
invariant_of-self c =
    let m = c.self.inside in
    let f : List Part → List Part = map (part_with c.args.addr c.args.width c.args.value) in
    let put : c.put_near.new.parts ≡ f m.parts.items = c.put_near.ensures ∙ ap f c.deref_mut.ensures.value in
    let long : length c.put_near.new.parts ≡ m.parts.len = omega (arith, c.put_near.auto.parts, c.deref_mut.ensures.len) in
    subst AreApart (sym (with_items_is m.parts c.put_near.new.parts long ∙ put)) (apart_kept m.parts.items c.args.addr c.args.width c.args.value c.self.invariant)

pub returns : goal.returns
returns c = grind (arith, with_items_is, parts_put)
