use Rattle.std.proofs.Common.{refl}
use Rattle.tc_workers.specs.StepWith.{step_of}
use Rattle.tc_workers_tests.proofs.Playing.{goes_on, playing}
use Rattle.tc_workers_tests.proofs.scripts.go_on_as.Goals as goal

pub returns : goal.returns
returns g c = playing c.args.bench.now c.args.player.now.desk c.in-On.hand c.in-On.hand c.args.player.now.end (goes_on c.args.bench.now c.args.player.now.desk (step_of c.args.settled) c.next.result c.in-On.hand c.requires.step c.next.ensures c.in-On.is) c.requires.settled refl
