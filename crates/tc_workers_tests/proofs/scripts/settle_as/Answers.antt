use Rattle.tc_workers.proofs.Desks.{after_settle}
use Rattle.tc_workers_tests.proofs.scripts.settle_as.Goals as goal

pub go_on_as-requires-clause-step : goal.go_on_as-requires-clause-step
go_on_as-requires-clause-step g c κs within =
    let done = c.settle-settled.ensures in
    after_settle c.args.bench.now c.in_hand-package.result.0 c.in_hand-package.new.player.desk c.settle-settled.new.self c.settle-settled.result done.keeps c.in_hand-package.result.1 c.in_hand-package.ensures.sealed done.settled
