use Rattle.std.proofs.Common.{◌∙◌, sym, ap, arith, ℕ, [], ◌∷◌}
use Rattle.tc_nodes.specs.Order.{without_pick}
use Rattle.tc_nodes.specs.View.{NodeQueueView}
use Rattle.tc_nodes.proofs.Calling.{returns_from, turn_picked}
use Rattle.tc_nodes.proofs.queue.NodeQueue.give.Goals as goal

pub store-requires : goal.store-requires
store-requires g c =
    let key = c.self.inside.board.shared.key in
    let h = c.requires.may.at.holds in
    let turn = turn_picked _ c.args.self.now key c.args.own.now g.J.Named.own c.self.view_is c.self.invariant.of_threads c.requires.may.picked c.requires.may.turn in (
      c.pick-answer.ensures.same.0 ∙ (c.requires.may.at.own ∙ sym (ap (λ (q : NodeQueueView). q.table) c.self.view_is)),
      omega (arith, c.self.invariant.words),
      returns_from key _ c.pick-answer.new.place.id c.args.place.now.me c.pick-answer.new.place.me h.0 g.J.Named.own g.J.Named.node h.1 c.pick-answer.ensures.did.1.0
          (c.pick-answer.ensures.did.1.1 h.0 h.1.slot ∙ ap (λ (n : ℕ). (0, without_pick n h.0) ∷ []) c.requires.node) turn,
    )
