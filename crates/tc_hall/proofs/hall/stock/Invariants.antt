use Rattle.std.proofs.Common.{◌+◌, ◌≤◌, vec_capacity}
use Rattle.tc_hall.proofs.Vocabulary.{AreStocked}
use Rattle.tc_hall.proofs.hall.stock.Given as goal

abbrev pub invariant-loop-t : goal.invariant-loop-t
invariant-loop-t l = record { stocked : AreStocked l.fn.image l.t 0 l.fn.fuel l.fn.limit l.slots.items; room : l.threads + l.locks ≤ vec_capacity l.slots }

abbrev pub invariant-loop-i : goal.invariant-loop-i
invariant-loop-i l = record { stocked : AreStocked l.fn.image l.threads l.i l.fn.fuel l.fn.limit l.slots.items; room : l.threads + l.locks ≤ vec_capacity l.slots }
