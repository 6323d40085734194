use Rattle.std.proofs.Common.{length}
use Rattle.tc_elf.proofs.checks.+any_meeting.Given as goal

abbrev pub decreases-any_meeting : goal.decreases-any_meeting
decreases-any_meeting l = length l.guards.now
