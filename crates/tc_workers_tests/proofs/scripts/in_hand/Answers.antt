use Rattle.std.proofs.Common.{◌≡◌, Some, rules}
use Rattle.tc_workers_tests.proofs.Playing.{has_sealed}
use Rattle.tc_workers_tests.proofs.scripts.in_hand.Goals as goal

pub returns-clause-sealed : goal.returns-clause-sealed
returns-clause-sealed g c =
    let some : c.args.player.now.hand ≡ Some c.in-Some.package = search rules in
    let ended : c.args.player.now.end ≡ Some c.in-Some-take.end = search rules in
    has_sealed c.args.bench.now c.args.player.now.desk c.args.player.now.hand c.args.player.now.end c.in-Some.package c.in-Some-take.end c.requires some ended
