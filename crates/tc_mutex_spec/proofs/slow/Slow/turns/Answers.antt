use Rattle.std.proofs.Common.{ap, sym, ◌∙◌, Some, true, false, subst}
use Rattle.tc_mutex_spec.specs.Slow.{Turned, state_of}
use Rattle.tc_mutex_spec.proofs.Folding.{turns-more, turns-stuck}
use Rattle.tc_mutex_spec.proofs.slow.Slow.turns.Goals as goal

pub returns-then-not-turn-clause-ran : goal.returns-then-not-turn-clause-ran
returns-then-not-turn-clause-ran c =
    let l = c.loop-done in
    let t : Turned c.args.image.now l.self c.args.t false c.turn.new.self = subst (λ b. Turned c.args.image.now l.self c.args.t b c.turn.new.self) c.if-not-turn.true c.turn.ensures.turned in
    turns-stuck c.args.image.now (state_of c.args.self.now) (state_of l.self) c.args.t l.done c.args.count l.invariant.ran t.0 c.loop-done-test.true

pub loop-done-preserved : goal.loop-done-preserved
loop-done-preserved c =
    let l = c.loop-done in
    let t : Turned c.args.image.now l.self c.args.t true c.turn.new.self = subst (λ b. Turned c.args.image.now l.self c.args.t b c.turn.new.self) c.if-not-turn.false c.turn.ensures.turned in
    record {
      ran = turns-more c.args.image.now (state_of c.args.self.now) (state_of l.self) c.args.t l.done l.invariant.ran t.0 ∙ ap Some (sym t.1);
      suits = c.turn.ensures.suits;
    }
