use Rattle.std.proofs.Common.{◌≡◌, Some, None, refl, sym, rules}
use Rattle.tc_workers.proofs.Desks.{taken_back}
use Rattle.tc_workers_tests.proofs.Playing.{at_desk, playing}
use Rattle.tc_workers_tests.proofs.scripts.take_back.Goals as goal

pub returns : goal.returns
returns g c =
    let ended : c.args.player.now.end ≡ None = search rules in
    let empty : c.args.player.now.hand ≡ None = search rules in
    let aside : c.args.player.now.desk.aside ≡ Some c.in-Some.package = search rules in
    playing c.args.bench.now c.back.new.self (Some c.in-Some.package) (Some c.in-Some.package) c.args.player.now.end
    (taken_back c.args.bench.now c.args.player.now.desk c.back.new.self (Some c.in-Some.package) (at_desk c.args.bench.now c.args.player.now.desk c.args.player.now.hand None c.args.player.now.end c.requires ended empty) (sym aside) c.back.ensures.rest) ended refl
