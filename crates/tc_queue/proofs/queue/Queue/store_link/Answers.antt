use Rattle.std.proofs.Common.{◌≡◌, ℕ, refl, sym, ap, ◌∙◌, subst, arith}
use Rattle.tc_queue.specs.declared.board.SeatLog.{SeatLog}
use Rattle.tc_queue.specs.View.{QueueView, OwnView}
use Rattle.tc_queue.specs.Words.{IsTurn}
use Rattle.tc_queue.specs.Calls.{MayLink, with_call}
use Rattle.tc_queue.specs.Asked.{answered}
use Rattle.tc_queue.specs.Steps.{Sitting}
use Rattle.tc_queue.proofs.Keeping.{links}
use Rattle.tc_queue.proofs.Behind.{behind_asked}
use Rattle.tc_queue.proofs.queue.Queue.store_link.Goals as goal

pub store-requires : goal.store-requires
store-requires g c =
    let own = ap (λ (s : OwnView). s.table) c.seat.view_is ∙ (c.requires.may.seat.0 ∙ sym (ap (λ (q : QueueView). q.table) c.self.view_is)) in
    let n : ℕ = c.self.inside.board.shared.key in
    let threads : c.args.self.now.threads ≡ n = sym (ap (λ (q : QueueView). q.threads) c.self.view_is) ∙ c.self.invariant.0 in
    let before = subst (λ (k : ℕ). IsTurn k c.args.before.now) threads c.requires.may.turns.0 in
    let low = before.thread in
    let turn = subst (λ (k : ℕ). IsTurn k c.args.own.now) threads c.requires.may.turns.1 in
    let may : MayLink c.seat.inside.place.me.0.calls c.args.own.now c.args.before.now = subst (λ (l : SeatLog). MayLink l.calls c.args.own.now c.args.before.now) (sym (ap (λ (s : OwnView). s.log) c.seat.view_is)) c.requires.may.entered in
    (own, omega (arith, c.self.invariant.0, c.self.invariant.1), links _ _ c.seat.inside.place.id c.seat.inside.place.me.0 c.seat.inside.place.me.1 g.J.Asking.ask c.args.own.now c.args.before.now _ _ c.requires.asked before turn may refl c.to_word.ensures)

pub invariant_of-seat : goal.invariant_of-seat
invariant_of-seat g c =
    let e = c.store.ensures.2 in
    (ap (λ (m : Sitting). m.1) e.now ∙ c.seat.invariant.0, behind_asked g.J.Asking.ask c.to_word.result c.seat.inside.place.me.0 c.store.new.seat.me.0 (ap (λ (m : Sitting). m.0) e.now) e.found c.seat.invariant.1)

pub returns : goal.returns
returns g c =
    let e = c.store.ensures in
    let log = ap (λ (m : Sitting). m.0) e.2.now ∙ (λ i. with_call (c.seat.view_is i).log (answered (c.requires.asked i) c.to_word.result)) in record {
      call = λ i. record { table = (e.0 ∙ ap (λ (s : OwnView). s.table) c.seat.view_is) i; id = (e.1 ∙ ap (λ (s : OwnView). s.id) c.seat.view_is) i; log = log i };
    }
