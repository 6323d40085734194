use Rattle.std.proofs.Common.{◌≡◌}
use Rattle.tc_elf.specs.Notes.{guards_from}
use Rattle.tc_elf.proofs.layout.guards_from.Given as goal

abbrev pub invariant-loop-i : goal.invariant-loop-i
invariant-loop-i l = l.guards.items ≡ guards_from l.descriptor l.at l.i
