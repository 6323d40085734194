use Rattle.std.proofs.Common.{length}
use Rattle.tc_elf.proofs.notes.+descriptor.Given as goal

abbrev pub decreases-descriptor : goal.decreases-descriptor
decreases-descriptor l = length l.segments.now
