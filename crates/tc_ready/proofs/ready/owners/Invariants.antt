use Rattle.std.proofs.Common.{◌≡◌, ◌≤◌, length, All, vec_capacity}
use Rattle.tc_ready.specs.EndView.{IsNew}
use Rattle.tc_ready.proofs.ready.owners.Given as goal

abbrev pub invariant-loop-number : goal.invariant-loop-number
invariant-loop-number l = (length l.owners.items ≡ l.number) × (l.workers ≤ vec_capacity l.owners) × All (IsNew l.threads l.room) l.owners.items
