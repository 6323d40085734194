use Rattle.tc_mutex_spec.specs.Machine.{start}
use Rattle.tc_mutex_spec.proofs.Holds.{holds_turns, holds_start}
use Rattle.tc_mutex_spec.proofs.law.holding.Goals as goal

pub returns : goal.returns
returns c = λ image fuel threads m e. holds_turns image threads (start image fuel) m (holds_start image fuel) e
