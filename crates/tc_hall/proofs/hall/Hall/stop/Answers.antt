use Rattle.std.proofs.Common.{ap, ◌∙◌, sym, arith}
use Rattle.tc_hall.proofs.Vocabulary.{HallView, PassView}
use Rattle.tc_hall.proofs.Stepping.{stops}
use Rattle.tc_hall.proofs.hall.Hall.stop.Goals as goal

pub store-requires : goal.store-requires
store-requires c =
    let seat = c.pass.inside.seat in
    let own = ap (λ (p : PassView). p.table) c.pass.view_is ∙ (c.requires.own ∙ sym (ap (λ (h : HallView). h.table) c.self.view_is)) in
    (own, omega (arith, c.self.invariant.1), stops c.self.inside.board.shared.key _ seat.id seat.me.0 seat.me.1 c.pass.invariant.0 c.pass.invariant.3)
