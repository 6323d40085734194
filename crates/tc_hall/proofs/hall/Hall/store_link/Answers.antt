use Rattle.std.proofs.Common.{◌≡◌, sym, ap, ◌∙◌, subst, arith}
use Rattle.tc_hall.proofs.Vocabulary.{HallView, Line, PassView, Sat, link_word_of, threads, with_call}
use Rattle.tc_queue.specs.declared.turn.QueueCall.TheVariants.{Link}
use Rattle.tc_queue.specs.Asked.{link}
use Rattle.tc_hall.specs.Lines.{IsAsked, MayLinkAt}
use Rattle.tc_hall.specs.Standing.{IfLined, LinksAs}
use Rattle.tc_hall.proofs.Words.{link_below}
use Rattle.tc_hall.proofs.Lining.{asked_so, stored_so, stores}
use Rattle.tc_hall.proofs.hall.Hall.store_link.Goals as goal

pub store-requires : goal.store-requires
store-requires g c =
    let seat = c.pass.inside.seat in
    let key = c.self.inside.board.shared.key in
    let own = ap (λ (p : PassView). p.table) c.pass.view_is ∙ (c.requires.own ∙ sym (ap (λ (h : HallView). h.table) c.self.view_is)) in
    let may : MayLinkAt key seat.me.0 c.args.lock c.args.before.now c.args.own.now = subst (λ (z : HallView × PassView). MayLinkAt z.0.terms z.1.knows c.args.lock c.args.before.now c.args.own.now) (λ q. (sym c.self.view_is q, sym c.pass.view_is q)) c.requires.may in
    let asked : IsAsked (threads key) c.args.lock (link c.args.before.now c.args.own.now) g.J.Asking.threads g.J.Asking.lock g.J.Asking.ask = subst (λ (h : HallView). IsAsked (threads h.terms) c.args.lock (link c.args.before.now c.args.own.now) g.J.Asking.threads g.J.Asking.lock g.J.Asking.ask) (sym c.self.view_is) c.requires.asked in
    let stands : IfLined key seat.me.0 (LinksAs seat.me.0 c.args.lock c.args.own.now) = subst (λ (z : HallView × PassView). IfLined z.0.terms z.1.knows (LinksAs z.1.knows c.args.lock c.args.own.now)) (λ q. (sym c.self.view_is q, sym c.pass.view_is q)) c.requires.stands in
    let at : c.link_of-place.result ≡ link_word_of key c.args.lock c.args.before.now.thread = c.link_of-place.ensures ∙ ap (λ (h : HallView). link_word_of h.terms c.args.lock c.args.before.now.thread) (sym c.self.view_is) in
    let few = c.self.invariant.0 in
    let most = c.self.invariant.8 in
    let low = may.behind.thread in
    let below = link_below key c.args.lock c.args.before.now.thread may.may.lined may.may.lock (omega (arith, few, most, low)) in (
      own,
      omega (arith, at, below, c.self.invariant.1),
      stored_so key _ seat.id c.link_of-place.result c.to_word.result seat.me (threads key) c.args.lock (link c.args.before.now c.args.own.now) _ _ _ asked
          (stores key _ seat.id c.args.lock seat.me.0 seat.me.1 c.pass.invariant.0 c.pass.invariant.3 c.args.before.now c.args.own.now _ _ may stands at c.to_word.ensures),
    )

pub invariant_of-pass : goal.invariant_of-pass
invariant_of-pass g c =
    let seat = c.pass.inside.seat in
    let key = c.self.inside.board.shared.key in
    let asked : IsAsked (threads key) c.args.lock (link c.args.before.now c.args.own.now) g.J.Asking.threads g.J.Asking.lock g.J.Asking.ask = subst (λ (h : HallView). IsAsked (threads h.terms) c.args.lock (link c.args.before.now c.args.own.now) g.J.Asking.threads g.J.Asking.lock g.J.Asking.ask) (sym c.self.view_is) c.requires.asked in
    let did = (asked_so (threads key) c.args.lock (link c.args.before.now c.args.own.now) g.J.Asking.threads g.J.Asking.lock g.J.Asking.ask seat.me _ c.store.new.seat.me asked c.store.ensures.2).0 in
    (ap (λ (m : Sat). m.1) did ∙ c.pass.invariant.0, ap (λ (m : Sat). m.0.open_slot) did ∙ c.pass.invariant.1, c.pass.invariant.2 ∙ sym (ap (λ (m : Sat). m.0.worker) did), ap (λ (m : Sat). m.0.spent) did ∙ c.pass.invariant.3)

pub returns-clause-call : goal.returns-clause-call
returns-clause-call g c =
    let seat = c.pass.inside.seat in
    let key = c.self.inside.board.shared.key in
    let asked : IsAsked (threads key) c.args.lock (link c.args.before.now c.args.own.now) g.J.Asking.threads g.J.Asking.lock g.J.Asking.ask = subst (λ (h : HallView). IsAsked (threads h.terms) c.args.lock (link c.args.before.now c.args.own.now) g.J.Asking.threads g.J.Asking.lock g.J.Asking.ask) (sym c.self.view_is) c.requires.asked in
    let did = asked_so (threads key) c.args.lock (link c.args.before.now c.args.own.now) g.J.Asking.threads g.J.Asking.lock g.J.Asking.ask seat.me _ c.store.new.seat.me asked c.store.ensures.2 in
    ap (λ (m : Sat). m.0) did.0 ∙ (λ q. with_call (c.pass.view_is q).knows (Line c.args.lock (Link c.args.before.now c.args.own.now)))
