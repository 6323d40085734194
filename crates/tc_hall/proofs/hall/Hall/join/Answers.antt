use Rattle.std.proofs.Common.{◌≡◌, true, sym, ap, ◌∙◌, subst, arith}
use Rattle.tc_hall.proofs.Vocabulary.{HallView, IsFree, PassView}
use Rattle.tc_hall.proofs.Stepping.{merges}
use Rattle.tc_hall.proofs.hall.Hall.join.Goals as goal

pub join_seat-requires : goal.join_seat-requires
join_seat-requires c =
    let hall = ap (λ (h : HallView). h.table) c.self.view_is in
    let both : c.self.inside.board.shared.key.lined ≡ true → IsFree c.pass.inside.seat.me.0 = subst (λ (z : HallView × PassView). z.0.terms.lined ≡ true → IsFree z.1.knows) (λ i. (sym c.self.view_is i, sym c.pass.view_is i)) c.requires.both in (
      ap (λ (p : PassView). p.table) c.pass.view_is ∙ (c.requires.own.0 ∙ sym hall),
      ap (λ (p : PassView). p.table) c.other.view_is ∙ (c.requires.own.1 ∙ sym hall),
      c.other.invariant.0,
      omega (arith, c.self.invariant.1),
      merges c.self.inside.board.shared.key c.pass.inside.seat.id c.pass.inside.seat.me.0 c.other.inside.seat.id c.other.inside.seat.me.0 c.pass.invariant.3 c.other.invariant.3 (subst (λ (p : PassView). IsFree p.knows) (sym c.other.view_is) c.requires.free) both,
    )
