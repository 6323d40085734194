use Rattle.std.proofs.Common.{◌≡◌, ◌+◌, ◌≤◌, vec_capacity}
use Rattle.tc_hall.proofs.Vocabulary.{AreTaken, IsEmptied, Lock, LockView, Package, PackageView, slots_filled, slots_items, slots_len}
use Rattle.tc_hall.proofs.hall.Hall.close.Given as goal

abbrev pub invariant-loop-t : goal.invariant-loop-t
invariant-loop-t l = record {
  taken : AreTaken (λ (q : PackageView). Package q) 0 l.t (slots_items l.initial.closed.slots) l.packages.items;
  same : slots_items l.closed.slots ≡ slots_items l.initial.closed.slots;
  emptied : IsEmptied l.t (slots_len l.initial.closed.slots) (slots_filled l.closed.slots);
  long : slots_len l.closed.slots ≡ slots_len l.initial.closed.slots;
  room : l.threads ≤ vec_capacity l.packages;
}

abbrev pub invariant-loop-i : goal.invariant-loop-i
invariant-loop-i l = record {
  taken : AreTaken (λ (q : LockView). Lock q) l.threads l.i (slots_items l.initial.closed.slots) l.lock_states.items;
  same : slots_items l.closed.slots ≡ slots_items l.initial.closed.slots;
  emptied : IsEmptied (l.threads + l.i) (slots_len l.initial.closed.slots) (slots_filled l.closed.slots);
  long : slots_len l.closed.slots ≡ slots_len l.initial.closed.slots;
  room : l.locks ≤ vec_capacity l.lock_states;
}
