use Rattle.std.proofs.Common.{◌≡◌, ◌≤◌, length, map, All, vec_capacity}
use Rattle.tc_ready.specs.EndView.{new_end}
use Rattle.tc_ready.proofs.ready.Ready.crew.Given as goal

abbrev pub invariant-loop-k : goal.invariant-loop-k
invariant-loop-k l = (l.owners.items ≡ l.initial.owners.items) × (length l.all.items ≡ l.k) × (l.workers ≤ vec_capacity l.all) × All (λ es. es.items ≡ map new_end l.initial.owners.items) l.all.items
