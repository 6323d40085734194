use Rattle.tc_context.proofs.Vocabulary.{◌-◌, ◌≤◌, has, MAX_TURNS}
use Rattle.tc_context.proofs.Partway.{IsOn}
use Rattle.tc_context.proofs.context.Context.turns.Given as goal

abbrev pub invariant-block : goal.invariant-block
invariant-block l = record { most : l.count ≤ MAX_TURNS; on : IsOn l.image (has l.block) l.fn.self l.self l.count }

abbrev pub decreases-block : goal.decreases-block
decreases-block l = MAX_TURNS - l.count
