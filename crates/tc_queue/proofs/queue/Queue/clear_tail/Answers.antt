use Rattle.std.proofs.Common.{◌≡◌, ℕ, Option, sym, ap, ◌∙◌, subst, arith}
use Rattle.tc_queue.specs.declared.turn.Turn.{Turn}
use Rattle.tc_queue.specs.View.{QueueView, OwnView}
use Rattle.tc_queue.specs.Words.{IsTurn}
use Rattle.tc_queue.specs.Calls.{with_call, leave_call, IsTail}
use Rattle.tc_queue.specs.Asked.{Ask, IsFound, answered}
use Rattle.tc_queue.specs.Steps.{Sitting}
use Rattle.tc_queue.proofs.Keeping.{leaves}
use Rattle.tc_queue.proofs.Behind.{behind_asked}
use Rattle.tc_queue.proofs.queue.Queue.clear_tail.Goals as goal

pub compare_exchange-word-requires : goal.compare_exchange-word-requires
compare_exchange-word-requires g c =
    let own = ap (λ (s : OwnView). s.table) c.seat.view_is ∙ (c.requires.may.seat.0 ∙ sym (ap (λ (q : QueueView). q.table) c.self.view_is)) in
    let threads : c.args.self.now.threads ≡ c.self.inside.board.shared.key = sym (ap (λ (q : QueueView). q.threads) c.self.view_is) ∙ c.self.invariant.0 in
    let turn : IsTurn c.self.inside.board.shared.key c.args.own.now = subst (λ (n : ℕ). IsTurn n c.args.own.now) threads c.requires.may.turn in
    (own, omega (arith, c.self.invariant.1), leaves _ _ c.seat.inside.place.id c.seat.inside.place.me.0 c.seat.inside.place.me.1 g.J.Asking.ask c.args.own.now _ c.requires.asked turn c.to_word.ensures)

pub invariant_of-seat : goal.invariant_of-seat
invariant_of-seat g c =
    let e = c.compare_exchange-word.ensures.2 in
    (ap (λ (m : Sitting). m.1) e.now ∙ c.seat.invariant.0, behind_asked g.J.Asking.ask c.compare_exchange-word.result c.seat.inside.place.me.0 c.compare_exchange-word.new.seat.me.0 (ap (λ (m : Sitting). m.0) e.now) e.found c.seat.invariant.1)

pub returns-clause-tail : goal.returns-clause-tail
returns-clause-tail g c =
    let e = c.compare_exchange-word.ensures.2 in
    let count = ap (λ (s : OwnView). s.log.threads) c.seat.view_is ∙ c.requires.may.seat.1 in
    subst (λ (z : ℕ × Option Turn). IsTail z.0 z.1) (λ i. (count i, sym c.from_word.ensures i)) (subst (λ (a : Ask). IsFound c.seat.inside.place.me.0.threads a c.compare_exchange-word.result) c.requires.asked e.found)

pub returns-clause-call : goal.returns-clause-call
returns-clause-call g c =
    let e = c.compare_exchange-word.ensures in
    let log = ap (λ (m : Sitting). m.0) e.2.now ∙ ((λ i. with_call (c.seat.view_is i).log (answered (c.requires.asked i) c.compare_exchange-word.result)) ∙ ap (λ (t : Option Turn). with_call c.args.seat.now.log (leave_call c.args.own.now t)) (sym c.from_word.ensures)) in
    (λ i. record { table = (e.0 ∙ ap (λ (s : OwnView). s.table) c.seat.view_is) i; id = (e.1 ∙ ap (λ (s : OwnView). s.id) c.seat.view_is) i; log = log i })
