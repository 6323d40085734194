use Rattle.tc_context.proofs.Vocabulary.{arith}
use Rattle.tc_context.proofs.LockList.{changed_place}
use Rattle.tc_context.proofs.locks.LockSet.note_one.Goals.{in-Some+then-takes_word, in-Some+else-takes_word, in_default}
use Rattle.tc_context.proofs.locks.LockSet.note_one.Goals as goal

pub returns : goal.returns
returns c = grind (arith, changed_place)
