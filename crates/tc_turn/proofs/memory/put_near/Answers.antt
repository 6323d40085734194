use Rattle.tc_turn.proofs.Vocabulary.{arith, get_or_default}
use Rattle.tc_turn.proofs.PartLaws.{put_there, part_written}
use Rattle.tc_turn.proofs.memory.put_near.Goals as goal

pub returns : goal.returns
returns c = grind (arith, part_written, get_or_default, put_there)
