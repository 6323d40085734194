use Rattle.std.proofs.Common.{◌≡◌, ◌≤◌, length, map, take, vec_capacity}
use Rattle.tc_ready.specs.EndView.{new_end}
use Rattle.tc_ready.proofs.ready.ends.Given as goal

abbrev pub invariant-loop-j : goal.invariant-loop-j
invariant-loop-j l = (l.owners.items ≡ l.initial.owners.items) × (length l.owners.items ≤ vec_capacity l.ends) × (l.ends.items ≡ map new_end (take l.j l.initial.owners.items))
