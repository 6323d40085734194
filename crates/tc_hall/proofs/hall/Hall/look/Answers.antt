use Rattle.std.proofs.Common.{◌<◌, ℕ, ap, ◌∙◌, sym, subst, arith}
use Rattle.tc_hall.proofs.Vocabulary.{HallView, PassView, Sat, threads}
use Rattle.tc_hall.proofs.Stepping.{Looks, looks}
use Rattle.tc_hall.proofs.hall.Hall.look.Goals as goal

pub load-requires : goal.load-requires
load-requires c =
    let seat = c.pass.inside.seat in
    let own = ap (λ (p : PassView). p.table) c.pass.view_is ∙ (c.requires.own ∙ sym (ap (λ (h : HallView). h.table) c.self.view_is)) in
    let below : c.args.t < threads c.self.inside.board.shared.key = subst (λ (h : HallView). c.args.t < threads h.terms) (sym c.self.view_is) c.requires.thread in (
      own,
      omega (arith, c.self.invariant.0, c.self.invariant.1, c.word_of.ensures),
      subst (λ (z : ℕ). Looks c.self.inside.board.shared.key c.self.inside.board.shared.table_id.slots seat.id z seat.me.0 seat.me.1) (sym c.word_of.ensures)
          (looks c.self.inside.board.shared.key _ seat.id c.args.t seat.me.0 seat.me.1 c.pass.invariant.0 below c.pass.invariant.3),
    )

pub invariant_of-pass : goal.invariant_of-pass
invariant_of-pass c =
    let saw = c.load.ensures.2 c.args.t c.word_of.ensures in
    (ap (λ (m : Sat). m.1) saw ∙ c.pass.invariant.0, ap (λ (m : Sat). m.0.open_slot) saw ∙ c.pass.invariant.1, c.pass.invariant.2 ∙ sym (ap (λ (m : Sat). m.0.worker) saw), ap (λ (m : Sat). m.0.spent) saw ∙ c.pass.invariant.3)
