use Rattle.std.proofs.Common.{◌≡◌, ◌≤◌, length, vec_capacity}
use Rattle.tc_exec.specs.Code.{SlotsTell}
use Rattle.tc_exec.proofs.code.slots_from.Given as goal

abbrev pub invariant-words : goal.invariant-words
invariant-words l = record {
  tells : SlotsTell l.image l.start l.slots.items;
  count : length l.slots.items ≡ l.i;
  room : l.count ≤ vec_capacity l.slots;
}
