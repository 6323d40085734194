use Rattle.std.proofs.Common.{ℕ, [], ◌∷◌, ◌<◌, ◌∙◌, ap, sym, subst}
use Rattle.crossbeam_deque.specs.Tasks.{Pushes}
use Rattle.crossbeam_deque.specs.Handles.{worker_view}
use Rattle.tc_ready.specs.EndView.{OwnView}
use Rattle.tc_ready.specs.Rule.{KeptDeque, given}
use Rattle.tc_ready.proofs.Keeping.{gives}
use Rattle.tc_ready.proofs.ends.OwnEnd.offer.Goals as goal

pub push_as-requires-clause-pushes : goal.push_as-requires-clause-pushes
push_as-requires-clause-pushes c =
    let v = worker_view c.self.inside.worker in
    let t = c.args.thread in
    subst (λ (p : ℕ). Pushes KeptDeque p v (t ∷ []) (given v (t ∷ []))) (sym c.self.invariant.1)
    (gives v t (subst (λ (n : ℕ). t < n) (sym (ap (λ (o : OwnView). o.threads) c.self.view_is) ∙ sym c.self.invariant.9) c.requires))
