use Rattle.std.proofs.Common.{◌≡◌, Some, length}
use Rattle.std.specs.Option.{option_copied}
use Rattle.tc_elf.specs.Notes.{single, descriptors_of}
use Rattle.tc_elf.specs.Search.{only_one}
use Rattle.tc_elf.proofs.notes.descriptor_in.Given as goal

abbrev pub invariant-loop-rest : goal.invariant-loop-rest
invariant-loop-rest l = only_one (Some (option_copied l.found)) (single (descriptors_of l.rest)) ≡ single (descriptors_of l.bytes)

abbrev pub decreases-loop-rest : goal.decreases-loop-rest
decreases-loop-rest l = length l.rest
