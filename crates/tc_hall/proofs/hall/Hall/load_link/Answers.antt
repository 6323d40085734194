use Rattle.std.proofs.Common.{◌≡◌, ℕ, Option, sym, ap, ◌∙◌, subst, arith}
use Rattle.tc_hall.proofs.Vocabulary.{HallView, Line, PassView, Sat, link_word_of, threads, with_call}
use Rattle.tc_queue.specs.declared.words.Linked.{Linked}
use Rattle.tc_queue.specs.Calls.{IsLink, next_call}
use Rattle.tc_queue.specs.Asked.{next}
use Rattle.tc_hall.specs.Lines.{IsAsked, MayStand}
use Rattle.tc_hall.specs.Standing.{IfLined, StandsAs, loose}
use Rattle.tc_hall.proofs.Words.{link_below}
use Rattle.tc_hall.proofs.Lining.{asked_so, found_so, loads}
use Rattle.tc_hall.proofs.hall.Hall.load_link.Goals as goal

pub load-word-requires : goal.load-word-requires
load-word-requires g c =
    let seat = c.pass.inside.seat in
    let key = c.self.inside.board.shared.key in
    let own = ap (λ (p : PassView). p.table) c.pass.view_is ∙ (c.requires.own ∙ sym (ap (λ (h : HallView). h.table) c.self.view_is)) in
    let may : MayStand key c.args.lock c.args.own.now = subst (λ (h : HallView). MayStand h.terms c.args.lock c.args.own.now) (sym c.self.view_is) c.requires.may in
    let asked : IsAsked (threads key) c.args.lock (next c.args.own.now) g.J.Asking.threads g.J.Asking.lock g.J.Asking.ask = subst (λ (h : HallView). IsAsked (threads h.terms) c.args.lock (next c.args.own.now) g.J.Asking.threads g.J.Asking.lock g.J.Asking.ask) (sym c.self.view_is) c.requires.asked in
    let stands : IfLined key seat.me.0 (StandsAs seat.me.0 c.args.lock (loose c.args.own.now)) = subst (λ (z : HallView × PassView). IfLined z.0.terms z.1.knows (StandsAs z.1.knows c.args.lock (loose c.args.own.now))) (λ q. (sym c.self.view_is q, sym c.pass.view_is q)) c.requires.stands in
    let at : c.link_of-place.result ≡ link_word_of key c.args.lock c.args.own.now.thread = c.link_of-place.ensures ∙ ap (λ (h : HallView). link_word_of h.terms c.args.lock c.args.own.now.thread) (sym c.self.view_is) in
    let few = c.self.invariant.0 in
    let most = c.self.invariant.8 in
    let low = may.turn.thread in
    let below = link_below key c.args.lock c.args.own.now.thread may.lined may.lock (omega (arith, few, most, low)) in (
      own,
      omega (arith, at, below, c.self.invariant.1),
      found_so key _ seat.id c.link_of-place.result seat.me (λ n. n) (threads key) c.args.lock (next c.args.own.now) _ _ _ asked
          (loads key _ seat.id c.args.lock seat.me.0 seat.me.1 c.pass.invariant.0 c.pass.invariant.3 c.args.own.now _ may stands at),
    )

pub invariant_of-pass : goal.invariant_of-pass
invariant_of-pass g c =
    let seat = c.pass.inside.seat in
    let key = c.self.inside.board.shared.key in
    let asked : IsAsked (threads key) c.args.lock (next c.args.own.now) g.J.Asking.threads g.J.Asking.lock g.J.Asking.ask = subst (λ (h : HallView). IsAsked (threads h.terms) c.args.lock (next c.args.own.now) g.J.Asking.threads g.J.Asking.lock g.J.Asking.ask) (sym c.self.view_is) c.requires.asked in
    let did = (asked_so (threads key) c.args.lock (next c.args.own.now) g.J.Asking.threads g.J.Asking.lock g.J.Asking.ask seat.me _ c.load-word.new.seat.me asked c.load-word.ensures.2).0 in
    (ap (λ (m : Sat). m.1) did ∙ c.pass.invariant.0, ap (λ (m : Sat). m.0.open_slot) did ∙ c.pass.invariant.1, c.pass.invariant.2 ∙ sym (ap (λ (m : Sat). m.0.worker) did), ap (λ (m : Sat). m.0.spent) did ∙ c.pass.invariant.3)

pub returns-clause-link : goal.returns-clause-link
returns-clause-link g c =
    let seat = c.pass.inside.seat in
    let key = c.self.inside.board.shared.key in
    let asked : IsAsked (threads key) c.args.lock (next c.args.own.now) g.J.Asking.threads g.J.Asking.lock g.J.Asking.ask = subst (λ (h : HallView). IsAsked (threads h.terms) c.args.lock (next c.args.own.now) g.J.Asking.threads g.J.Asking.lock g.J.Asking.ask) (sym c.self.view_is) c.requires.asked in
    let did = asked_so (threads key) c.args.lock (next c.args.own.now) g.J.Asking.threads g.J.Asking.lock g.J.Asking.ask seat.me _ c.load-word.new.seat.me asked c.load-word.ensures.2 in
    subst (λ (z : ℕ × Option Linked). IsLink z.0 z.1) (λ q. (threads (c.self.view_is q).terms, sym c.from_word.ensures q)) did.1

pub returns-clause-call : goal.returns-clause-call
returns-clause-call g c =
    let seat = c.pass.inside.seat in
    let key = c.self.inside.board.shared.key in
    let asked : IsAsked (threads key) c.args.lock (next c.args.own.now) g.J.Asking.threads g.J.Asking.lock g.J.Asking.ask = subst (λ (h : HallView). IsAsked (threads h.terms) c.args.lock (next c.args.own.now) g.J.Asking.threads g.J.Asking.lock g.J.Asking.ask) (sym c.self.view_is) c.requires.asked in
    let did = asked_so (threads key) c.args.lock (next c.args.own.now) g.J.Asking.threads g.J.Asking.lock g.J.Asking.ask seat.me _ c.load-word.new.seat.me asked c.load-word.ensures.2 in
    ap (λ (m : Sat). m.0) did.0 ∙ (λ q. with_call (c.pass.view_is q).knows (Line c.args.lock (next_call c.args.own.now (sym c.from_word.ensures q))))
