use Rattle.std.proofs.Common.{◌≡◌, None, refl, rules}
use Rattle.tc_hall.specs.declared.board.PassCall.TheVariants.{Look}
use Rattle.tc_workers_tests.proofs.Playing.{looked_on}
use Rattle.tc_workers_tests.proofs.scripts.look_at.Goals as goal

pub returns : goal.returns
returns g c =
    let none : c.args.player.now.end ≡ None = search rules in
    looked_on c.args.bench.now c.args.player.now.desk c.pass.result.now c.look.new.pass c.args.player.now.hand c.args.player.now.end (Look c.args.t c.look.result) c.requires none c.pass.ensures.value c.look.ensures.own c.look.ensures.look (λ i s. refl, λ t n. refl)
