-- The exit statuses of the program.
use Rattle.std.specs.Prelude.{ℕ}
use Rattle.tc_main.specs.declared.status.Status.{Status}
use Rattle.tc_main.specs.declared.status.Status.TheVariants.{Done, Usage, ReadFault, Refused, WriteFault, OutOfMemory, Rejected}

abbrev pub status_number : Status → ℕ
status_number Done = 0
status_number Usage = 1
status_number ReadFault = 2
status_number (Refused k) = 3
status_number WriteFault = 4
status_number OutOfMemory = 5
status_number (Rejected r) = 6
