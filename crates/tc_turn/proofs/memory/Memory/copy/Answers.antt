use Rattle.tc_turn.proofs.Vocabulary.{◌∙◌, ◌≤◌, List, length, take, ap, sym, subst, take_all, Part, AreApart}
use Rattle.tc_turn.proofs.memory.Memory.copy.Goals as goal

pub invariant_of-result : goal.invariant_of-result
invariant_of-result c =
    let n = c.loop-part.part-index in
    let all = subst (λ (parts : List Part). length parts ≤ n) c.deref-part-items.ensures.value c.loop-part-test.false in
    subst AreApart (sym (take_all n c.self.inside.parts.items all) ∙ ap (take n) c.self.view_is ∙ sym c.loop-part.invariant) c.self.invariant
