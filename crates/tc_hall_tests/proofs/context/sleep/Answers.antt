use Rattle.std.proofs.Common.{◌≡◌, sym, subst}
use Rattle.tc_journal.specs.declared.block.End.TheVariants.{Slept}
use Rattle.tc_context.specs.View.{HasBlock}
use Rattle.tc_hall_tests.proofs.context.sleep.Goals as goal

pub slept-requires : goal.slept-requires
slept-requires g c = subst (HasBlock (λ b. b.end ≡ Slept)) (sym c.last-last.ensures) c.in-Slept.is
