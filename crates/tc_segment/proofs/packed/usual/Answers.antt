use Rattle.std.proofs.Common.{refl}
use Rattle.tc_segment.proofs.Vocabulary.{usual}
use Rattle.tc_segment.proofs.packed.usual.Goals as goal

pub returns : goal.returns
unfolding usual
returns c = refl
