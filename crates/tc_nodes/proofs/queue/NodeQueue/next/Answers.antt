use Rattle.std.proofs.Common.{◌≡◌, ◌∙◌, sym, ap, subst, ℕ}
use Rattle.tc_queue.specs.Words.{IsTurn}
use Rattle.tc_nodes.specs.Steps.{Sitting}
use Rattle.tc_nodes.specs.View.{NodeSeatView, DidNext}
use Rattle.tc_nodes.proofs.Calling.{still_same, of_seat, holds_filled, next_told, picked_turn}
use Rattle.tc_nodes.proofs.queue.NodeQueue.next.Goals as goal

pub invariant_of-seat : goal.invariant_of-seat
invariant_of-seat g c =
    let f = c.fill.ensures.did in
    let now = (c.give.ensures.did f.stand (holds_filled c.take.new.place.me c.fill.new.place.me f)).1 in
    (ap (λ (z : Sitting). z.1) now, ap (λ (z : Sitting). z.0.hand) now, c.seat.invariant.2)

pub returns-clause-next : goal.returns-clause-next
returns-clause-next g c =
    let f = c.fill.ensures.did in
    let holds = holds_filled c.take.new.place.me c.fill.new.place.me f in
    let now = (c.give.ensures.did f.stand holds).1 in
    let place = c.seat.inside.place in
    let told = next_told place.table_id place.id c.seat.inside.node place.me c.take.new.place.me c.fill.new.place.me c.give.new.place.me c.args.own c.seat.inside.node c.give.result c.take.ensures.did f (c.give.ensures.did f.stand holds).0 now in
    let same = still_same place c.fill.new.place c.give.new.place (still_same place c.take.new.place c.fill.new.place c.take.ensures.same c.fill.ensures.same) c.give.ensures.same in
    of_seat (λ s t. DidNext c.args.own s.node c.give.result s t) c.args.seat.now place c.give.new.place c.seat.inside.node c.seat.view_is same told

pub returns-clause-turn : goal.returns-clause-turn
returns-clause-turn g c u e =
    let f = c.fill.ensures.did in
    let holds = holds_filled c.take.new.place.me c.fill.new.place.me f in
    let answer = (c.give.ensures.did f.stand holds).0 in
    let threads : c.take.new.place.me.0.threads ≡ c.args.self.now.threads = ap (λ (z : Sitting). z.0.threads) c.take.ensures.did.now ∙ (ap (λ (s : NodeSeatView). s.threads) c.seat.view_is ∙ c.requires.seat.1) in
    subst (λ (n : ℕ). IsTurn n u) threads (picked_turn c.take.new.place.me.0.threads f.stand.line.bound c.seat.inside.node f.stand.line.waiting u f.line.turns (sym answer ∙ e))
