use Rattle.tc_context.proofs.Vocabulary.{arith}
use Rattle.tc_context.proofs.LockList.{changed_place}
use Rattle.tc_context.proofs.locks.LockSet.store.Goals.{in-Some, in_default}
use Rattle.tc_context.proofs.locks.LockSet.store.Goals as goal

pub returns : goal.returns
returns c = grind (arith, changed_place)
