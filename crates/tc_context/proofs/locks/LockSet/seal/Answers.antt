use Rattle.tc_context.proofs.Vocabulary.{sym, subst, has, CanSeal, EachHeld}
use Rattle.tc_context.proofs.locks.LockSet.seal.Goals as goal

pub seal_each-requires : goal.seal_each-requires
seal_each-requires c = subst (λ r. EachHeld (has c.args.block.now.held) (CanSeal c.args.block.now r) c.args.self.now) (sym c.set.ensures) c.requires
