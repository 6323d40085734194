use Rattle.std.proofs.Common.{◌≡◌, ℕ, Option, sym, ap, ◌∙◌, subst, arith}
use Rattle.tc_hall.proofs.Vocabulary.{HallView, Line, PassView, Sat, Turn, tail_word_of, threads, with_call}
use Rattle.tc_queue.specs.Calls.{IsTail, enter_call}
use Rattle.tc_queue.specs.Asked.{enter}
use Rattle.tc_hall.specs.Lines.{IsAsked, MayStand}
use Rattle.tc_hall.specs.Standing.{IfLined, EntersAs}
use Rattle.tc_hall.proofs.Words.{tail_below}
use Rattle.tc_hall.proofs.Lining.{asked_so, found_so, swaps}
use Rattle.tc_hall.proofs.hall.Hall.swap_tail.Goals as goal

pub swap-word-requires : goal.swap-word-requires
swap-word-requires g c =
    let seat = c.pass.inside.seat in
    let key = c.self.inside.board.shared.key in
    let own = ap (λ (p : PassView). p.table) c.pass.view_is ∙ (c.requires.own ∙ sym (ap (λ (h : HallView). h.table) c.self.view_is)) in
    let may : MayStand key c.args.lock c.args.turn.now = subst (λ (h : HallView). MayStand h.terms c.args.lock c.args.turn.now) (sym c.self.view_is) c.requires.may in
    let asked : IsAsked (threads key) c.args.lock (enter c.args.turn.now) g.J.Asking.threads g.J.Asking.lock g.J.Asking.ask = subst (λ (h : HallView). IsAsked (threads h.terms) c.args.lock (enter c.args.turn.now) g.J.Asking.threads g.J.Asking.lock g.J.Asking.ask) (sym c.self.view_is) c.requires.asked in
    let stands : IfLined key seat.me.0 (EntersAs seat.me.0 c.args.lock c.args.turn.now) = subst (λ (z : HallView × PassView). IfLined z.0.terms z.1.knows (EntersAs z.1.knows c.args.lock c.args.turn.now)) (λ q. (sym c.self.view_is q, sym c.pass.view_is q)) c.requires.stands in
    let at : c.tail_of-place.result ≡ tail_word_of key c.args.lock = c.tail_of-place.ensures ∙ ap (λ (h : HallView). tail_word_of h.terms c.args.lock) (sym c.self.view_is) in
    let below = tail_below key c.args.lock may.lined may.lock in (
      own,
      omega (arith, at, below, c.self.invariant.1),
      found_so key _ seat.id c.tail_of-place.result seat.me (λ _. c.to_word.result) (threads key) c.args.lock (enter c.args.turn.now) _ _ _ asked
          (swaps key _ seat.id c.args.lock seat.me.0 seat.me.1 c.pass.invariant.0 c.pass.invariant.3 c.args.turn.now _ _ may stands at c.to_word.ensures),
    )

pub invariant_of-pass : goal.invariant_of-pass
invariant_of-pass g c =
    let seat = c.pass.inside.seat in
    let key = c.self.inside.board.shared.key in
    let asked : IsAsked (threads key) c.args.lock (enter c.args.turn.now) g.J.Asking.threads g.J.Asking.lock g.J.Asking.ask = subst (λ (h : HallView). IsAsked (threads h.terms) c.args.lock (enter c.args.turn.now) g.J.Asking.threads g.J.Asking.lock g.J.Asking.ask) (sym c.self.view_is) c.requires.asked in
    let did = (asked_so (threads key) c.args.lock (enter c.args.turn.now) g.J.Asking.threads g.J.Asking.lock g.J.Asking.ask seat.me _ c.swap-word.new.seat.me asked c.swap-word.ensures.2).0 in
    (ap (λ (m : Sat). m.1) did ∙ c.pass.invariant.0, ap (λ (m : Sat). m.0.open_slot) did ∙ c.pass.invariant.1, c.pass.invariant.2 ∙ sym (ap (λ (m : Sat). m.0.worker) did), ap (λ (m : Sat). m.0.spent) did ∙ c.pass.invariant.3)

pub returns-clause-tail : goal.returns-clause-tail
returns-clause-tail g c =
    let seat = c.pass.inside.seat in
    let key = c.self.inside.board.shared.key in
    let asked : IsAsked (threads key) c.args.lock (enter c.args.turn.now) g.J.Asking.threads g.J.Asking.lock g.J.Asking.ask = subst (λ (h : HallView). IsAsked (threads h.terms) c.args.lock (enter c.args.turn.now) g.J.Asking.threads g.J.Asking.lock g.J.Asking.ask) (sym c.self.view_is) c.requires.asked in
    let did = asked_so (threads key) c.args.lock (enter c.args.turn.now) g.J.Asking.threads g.J.Asking.lock g.J.Asking.ask seat.me _ c.swap-word.new.seat.me asked c.swap-word.ensures.2 in
    subst (λ (z : ℕ × Option Turn). IsTail z.0 z.1) (λ q. (threads (c.self.view_is q).terms, sym c.from_word.ensures q)) did.1

pub returns-clause-call : goal.returns-clause-call
returns-clause-call g c =
    let seat = c.pass.inside.seat in
    let key = c.self.inside.board.shared.key in
    let asked : IsAsked (threads key) c.args.lock (enter c.args.turn.now) g.J.Asking.threads g.J.Asking.lock g.J.Asking.ask = subst (λ (h : HallView). IsAsked (threads h.terms) c.args.lock (enter c.args.turn.now) g.J.Asking.threads g.J.Asking.lock g.J.Asking.ask) (sym c.self.view_is) c.requires.asked in
    let did = asked_so (threads key) c.args.lock (enter c.args.turn.now) g.J.Asking.threads g.J.Asking.lock g.J.Asking.ask seat.me _ c.swap-word.new.seat.me asked c.swap-word.ensures.2 in
    ap (λ (m : Sat). m.0) did.0 ∙ (λ q. with_call (c.pass.view_is q).knows (Line c.args.lock (enter_call c.args.turn.now (sym c.from_word.ensures q))))
