use Rattle.std.proofs.Common.{ℕ, ◌<◌, sym, subst}
use Rattle.crossbeam_deque.specs.Tasks.{Forks}
use Rattle.crossbeam_deque.specs.Handles.{worker_view}
use Rattle.tc_ready.specs.Rule.{KeptDeque, opened}
use Rattle.tc_ready.proofs.Keeping.{deals}
use Rattle.tc_ready.proofs.ends.OwnEnd.other.Goals as goal

pub another-pass-requires : goal.another-pass-requires
another-pass-requires c =
    let v = worker_view c.self.inside.worker in
    subst (λ (p : ℕ). Forks KeptDeque p v v (opened v.threads)) (sym c.self.invariant.1) (deals v (subst (λ (n : ℕ). 0 < n) (sym c.self.invariant.9) c.self.invariant.10))
