use Rattle.tc_workers_tests.specs.Scripts.{IsPlaying}
use Rattle.tc_workers_tests.proofs.scripts.act_all.Given as goal

abbrev pub invariant-loop-action : goal.invariant-loop-action
invariant-loop-action g l = IsPlaying l.bench l.player.desk l.player.hand l.player.end
