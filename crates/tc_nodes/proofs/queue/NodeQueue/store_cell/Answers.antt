use Rattle.std.proofs.Common.{◌≡◌, ◌∙◌, ◌+◌, ◌%◌, ◌<◌, sym, ap, subst, arith, ℕ}
use Rattle.tc_queue.specs.declared.turn.Turn.{Turn}
use Rattle.tc_nodes.specs.Cells.{cell_word}
use Rattle.tc_nodes.specs.Order.{MayLink}
use Rattle.tc_nodes.specs.View.{NodeQueueView, NodeSeatView}
use Rattle.tc_nodes.proofs.Calling.{turn_picked}
use Rattle.tc_nodes.proofs.Stepping.{links_turn}
use Rattle.tc_nodes.proofs.queue.NodeQueue.store_cell.Goals as goal

pub store-requires : goal.store-requires
store-requires g c =
    let key = c.self.inside.board.shared.key in
    let p = c.requires.picked in
    let turn = turn_picked _ c.args.self.now key c.args.own.now g.J.Named.own c.self.view_is c.self.invariant.of_threads p.0 c.requires.may.turn in
    let on : c.seat.inside.node ≡ g.J.Named.node = ap (λ (s : NodeSeatView). s.node) c.seat.view_is ∙ p.2 in
    let node : g.J.Named.node < 8 = subst (λ (n : ℕ). n < 8) on c.seat.invariant.2 in
    let may : MayLink c.seat.inside.place.me.0.calls g.J.Named.own g.J.Named.place =
    subst (λ (z : Turn × ℕ). MayLink c.seat.inside.place.me.0.calls z.0 z.1) (λ i. (p.0 i, p.1 i)) (subst (λ (s : NodeSeatView). MayLink s.calls c.args.own.now c.args.place) (sym c.seat.view_is) c.requires.may.entered) in (
      ap (λ (s : NodeSeatView). s.table) c.seat.view_is ∙ (c.requires.may.seat.0 ∙ sym (ap (λ (q : NodeQueueView). q.table) c.self.view_is)),
      omega (arith, c.self.invariant.words),
      links_turn key _ c.seat.inside.place.id c.seat.inside.place.me.0 c.seat.inside.place.me.1 g.J.Named.place g.J.Named.own g.J.Named.node _ c.to_word.result turn node may (ap (λ (n : ℕ). n % 64 + 2) p.1)
          (c.to_word.ensures ∙ (λ i. cell_word (record { turn = p.0 i; node = on i }))),
    )
