use Rattle.std.proofs.Common.{◌≡◌, refl, ℕ, ◌∷◌, [], ◌++◌, sym, subst, ap, ◌∙◌}
use Rattle.tc_queue.specs.declared.turn.Entered.{Entered}
use Rattle.tc_queue.specs.declared.turn.QueueCall.TheVariants.{Enter}
use Rattle.tc_queue.specs.Words.{IsTurn}
use Rattle.tc_queue.proofs.Marks.{just_entered}
use Rattle.tc_hall.specs.declared.board.Knows.{Knows}
use Rattle.tc_hall.specs.Lines.{lines_of}
use Rattle.tc_order.proofs.Lists.{lines_quiet, lines_more}
use Rattle.tc_order.proofs.in_hall.InHallOrder.enter.Goals as goal

pub enter-requires-clause-stands : goal.enter-requires-clause-stands
enter-requires-clause-stands c = c.requires.stands c.args.self.now.lock refl

pub returns-in-Behind-clause-may : goal.returns-in-Behind-clause-may
returns-in-Behind-clause-may c p d longer quiet =
    let lock = c.args.self.now.lock in
    let was = c.args.pass.now.knows.calls in
    let entered = ap (λ (v : Knows). lines_of lock v.calls) c.enter.ensures.call ∙ (lines_more lock was (Enter c.args.turn c.enter.result) ∙ ap (λ (a : Entered). lines_of lock was ++ Enter c.args.turn a ∷ []) c.in-Behind.is) in (
      subst (λ (n : ℕ). IsTurn n c.in-Behind.before) (sym c.requires.own.1.all) (c.enter.ensures.behind c.in-Behind.before c.in-Behind.is),
      just_entered (lines_of lock p.knows.calls) (lines_of lock was) c.args.turn c.in-Behind.before (ap (lines_of lock) longer ∙ (lines_quiet lock c.enter.new.pass.knows.calls d quiet ∙ entered)),
    )
