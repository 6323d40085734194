use Rattle.std.proofs.Common.{◌≡◌, Some, None, rules}
use Rattle.tc_workers_tests.proofs.Playing.{at_desk}
use Rattle.tc_workers_tests.proofs.scripts.run_block.Goals as goal

pub seal_block-requires-clause-work : goal.seal_block-requires-clause-work
seal_block-requires-clause-work g c κs within =
    let none : c.args.player.now.end ≡ None = search rules in
    let some : c.args.player.now.hand ≡ Some c.in-Some.package = search rules in
    at_desk c.args.bench.now c.args.player.now.desk c.args.player.now.hand (Some c.in-Some.package) c.args.player.now.end c.requires none some
