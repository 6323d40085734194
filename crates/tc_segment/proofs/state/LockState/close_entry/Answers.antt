use Rattle.tc_segment.proofs.Vocabulary.{sym, subst, ClosesWith, Registers}
use Rattle.tc_segment.proofs.state.LockState.close_entry.Goals as goal

pub close_packed-requires-clause-closes : goal.close_packed-requires-clause-closes
close_packed-requires-clause-closes c = subst (λ (r : Registers). ClosesWith c.args.block r c.args.self.now) (sym c.of.ensures) c.requires.closes
