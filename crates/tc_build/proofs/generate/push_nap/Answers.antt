use Rattle.tc_build.proofs.Coding.{both}
use Rattle.tc_build.proofs.generate.push_nap.Goals as goal

pub returns : goal.returns
returns c = both _ _ _ _ _ (both _ _ _ _ _ (both _ _ _ _ _ c.in_ok-lock.ensures c.in_ok-add.ensures) c.in_ok-sleep.ensures) c.in_ok-unlock.ensures
