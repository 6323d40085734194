-- The numbers of the faults.
use Rattle.std.specs.Prelude.{ℕ}
use Rattle.tc_isa.specs.declared.fault.Fault.{Fault}
use Rattle.tc_isa.specs.declared.fault.Fault.TheVariants as fault

abbrev pub fault_number : Fault → ℕ
fault_number fault.Illegal = 1
fault_number fault.Fetch = 2
fault_number fault.JumpTarget = 3
fault_number fault.Load = 4
fault_number fault.Store = 5
fault_number fault.Misaligned = 6
fault_number fault.Unguarded = 7
fault_number fault.Break = 8
fault_number fault.BadCall = 9
fault_number fault.BadLock = 10
fault_number fault.LockOrder = 11
fault_number fault.NotHeld = 12
