use Rattle.std.proofs.Common.{ℕ, ◌<◌, sym, subst}
use Rattle.crossbeam_deque.specs.Tasks.{Forks}
use Rattle.crossbeam_deque.specs.Handles.{worker_view}
use Rattle.tc_ready.specs.declared.ends.Log.{Log}
use Rattle.tc_ready.specs.Rule.{KeptDeque, opened}
use Rattle.tc_ready.proofs.Keeping.{opens}
use Rattle.tc_ready.proofs.ends.open_as.Goals as goal

pub another-requires : goal.another-requires
another-requires g c =
    let n = g.J.Counted.threads in
    subst (λ (p : ℕ). Forks KeptDeque p (worker_view c.args.worker) (opened n) (opened n)) (sym c.requires.fresh.1)
    (subst (λ (v : Log). Forks KeptDeque 0 v (opened n) (opened n)) (sym c.requires.fresh.0) (opens n (subst (λ (k : ℕ). 0 < k) c.requires.picked c.requires.fresh.2)))
