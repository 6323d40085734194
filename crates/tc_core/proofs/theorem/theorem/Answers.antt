use Rattle.tc_core.specs.Core.{first_core}
use Rattle.tc_core.specs.Stories.{Story}
use Rattle.tc_core.specs.Theorem.{IsErased}
use Rattle.tc_core.proofs.Erasure.{erased, first_sound}
use Rattle.tc_core.proofs.Whole.{is_gathered}
use Rattle.tc_core.proofs.Served.{in_order}
use Rattle.tc_core.proofs.Batch.{keeps_batch}
use Rattle.tc_core.proofs.Tracked.{is_tracked}
use Rattle.tc_core.proofs.theorem.theorem.Goals as goal

is_erased : (s : Story) → IsErased s
is_erased s =
    let r = erased s.image s.limits s.events (first_core s.image s.fuel) (first_sound s.image s.fuel) s.enabled in
    record { run = r.run; owners = r.sound.owners }

pub returns-clause-turns : goal.returns-clause-turns
returns-clause-turns c = is_erased

pub returns-clause-blocks : goal.returns-clause-blocks
returns-clause-blocks c = is_gathered

pub returns-clause-order : goal.returns-clause-order
returns-clause-order c = λ s lock. (in_order s lock).1

pub returns-clause-batch : goal.returns-clause-batch
returns-clause-batch c = keeps_batch

pub returns-clause-grants : goal.returns-clause-grants
returns-clause-grants c = λ s lock. (in_order s lock).0

pub returns-clause-held : goal.returns-clause-held
returns-clause-held c = is_tracked
