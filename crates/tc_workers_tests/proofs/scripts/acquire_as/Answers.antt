use Rattle.std.proofs.Common.{subst}
use Rattle.tc_journal.specs.declared.block.End.{End}
use Rattle.tc_hall.proofs.Behind.{together_same}
use Rattle.tc_workers.specs.Worker.{HasSealed}
use Rattle.tc_workers.proofs.Desks.{after_acquire}
use Rattle.tc_workers_tests.proofs.Playing.{may_acquire}
use Rattle.tc_workers_tests.proofs.scripts.acquire_as.Goals as goal

pub acquire-settled-requires-clause-may : goal.acquire-settled-requires-clause-may
acquire-settled-requires-clause-may g c κs within =
    let q = c.in_hand-package.result.0 in
    let d = c.in_hand-package.new.player.desk in
    may_acquire c.args.bench.now c.in-Wants.lock q d c.keeps.ensures.sound (subst (λ (x : End). HasSealed c.args.bench.now x q d) c.in-Wants.is c.in_hand-package.ensures.sealed)

pub go_on_as-requires-clause-step : goal.go_on_as-requires-clause-step
go_on_as-requires-clause-step g c κs within =
    let done = c.acquire-settled.ensures in
    after_acquire c.args.bench.now c.in_hand-package.result.0 c.in_hand-package.new.player.desk c.acquire-settled.new.self c.acquire-settled.result done.keeps c.in_hand-package.ensures.sealed.seat c.keeps.ensures.sound (together_same _ _ c.in_hand-package.ensures.sealed.newest) done.acquired
