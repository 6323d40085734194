use Rattle.tc_segment.proofs.Vocabulary.{length, ap, arith, Registers, length-take, packed}
use Rattle.tc_segment.proofs.packed.Packed.count.Goals as goal

pub returns : goal.returns
returns c = omega (arith, ap length c.self.invariant.is, length-take c.self.inside.end c.self.inside.words, c.self.invariant.few, c.self.told, ap (λ (r : Registers). length (packed r)) c.self.view_is)
