use Rattle.std.proofs.Common.{◌≡◌, ◌<◌, ℕ, length, sym, ap, ◌∙◌, subst}
use Rattle.std.proofs.lemmas.List.{length-map}
use Rattle.tc_ready.specs.EndView.{OtherView}
use Rattle.tc_ready.specs.ReadyView.{ReadyView, taken_of}
use Rattle.tc_ready.proofs.Stealing.{ends_kept, shown}
use Rattle.tc_ready.proofs.ready.Ready.steal_at.Goals as goal

pub invariant_of-self : goal.invariant_of-self
invariant_of-self c =
    let l = c.self.inside.ends.items in
    let d = c.index_mut.result.now in
    let deep : c.args.j < length l = subst (λ (n : ℕ). c.args.j < n) (ap (λ (r : ReadyView). length r.stolen) (sym c.self.view_is) ∙ length-map l taken_of) c.requires in
    let at = c.index_mut.ensures.value in
    let count : d.threads ≡ c.self.inside.own.threads = ap (λ (z : OtherView). z.threads) at ∙ c.self.invariant.1 c.args.j d deep in
    ends_kept c.steal.result l c.args.j c.self.inside.number c.self.inside.own.threads c.self.inside.own.deque d c.steal.new.self at count c.steal.ensures c.self.invariant

pub returns : goal.returns
returns c =
    let l = c.self.inside.ends.items in
    let d = c.index_mut.result.now in
    let deep : c.args.j < length l = subst (λ (n : ℕ). c.args.j < n) (ap (λ (r : ReadyView). length r.stolen) (sym c.self.view_is) ∙ length-map l taken_of) c.requires in
    let at = c.index_mut.ensures.value in
    let count : d.threads ≡ c.self.inside.own.threads = ap (λ (z : OtherView). z.threads) at ∙ c.self.invariant.1 c.args.j d deep in
    shown c.steal.result (record c.args.self.now { threads = c.self.inside.own.threads; number = c.self.inside.number; room = c.self.inside.own.room; given = c.self.inside.own.given; gone = c.self.inside.own.gone; own = c.self.inside.own.taken }) c.args.self.now l c.args.j d c.steal.new.self deep at count c.self.view_is c.steal.ensures
