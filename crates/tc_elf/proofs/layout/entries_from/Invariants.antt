use Rattle.std.proofs.Common.{◌≡◌}
use Rattle.tc_elf.specs.Notes.{entries_from}
use Rattle.tc_elf.proofs.layout.entries_from.Given as goal

abbrev pub invariant-loop-i : goal.invariant-loop-i
invariant-loop-i l = l.entries.items ≡ entries_from l.descriptor l.at l.i
