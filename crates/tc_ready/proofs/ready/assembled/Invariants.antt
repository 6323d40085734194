use Rattle.std.specs.VecDeque.{deque_items}
use Rattle.std.proofs.Common.{◌≡◌, ◌≤◌, length, map, All, vec_capacity}
use Rattle.tc_ready.specs.EndView.{new_end}
use Rattle.tc_ready.specs.Crew.{AreMade}
use Rattle.tc_ready.proofs.ready.assembled.Given as goal

abbrev pub invariant-loop-own : goal.invariant-loop-own
invariant-loop-own l = AreMade l.threads l.room l.fn.owners.items l.yielded (deque_items l.own-iterator.rest) l.number l.crew.items
    × (length l.all.items ≡ length (deque_items l.own-iterator.rest)) × All (λ es. es.items ≡ map new_end l.fn.owners.items) l.all.items × (length l.fn.owners.items ≤ vec_capacity l.crew)
