-- Where a thread goes on: behind the instruction, or at the target of a jump or a taken branch
-- (RISC-V Unprivileged ISA, RV32I, "Control Transfer Instructions").
use Rattle.std.specs.Prelude.{ℕ, ◌%◌, ◌==◌, if◌then◌else◌, Option, Some, None}
use Rattle.tc_isa.specs.Registers.{Registers, get, with_register}
use Rattle.tc_isa.specs.declared.fault.Fault.{Fault}
use Rattle.tc_isa.specs.declared.fault.Fault.TheVariants as fault
use Rattle.tc_isa.specs.declared.instr.Cond.{Cond}
use Rattle.tc_exec.specs.Arithmetic.{plus, is_taken}
use Rattle.tc_exec.specs.declared.outcome.Act.{Act}
use Rattle.tc_exec.specs.declared.outcome.Act.TheVariants.{Next, Faulted}

abbrev pub at_place : Registers → ℕ → Registers
at_place r pc = record r { pc = pc }

-- at the next instruction
abbrev pub at_next : Registers → Registers
at_next r = at_place r (plus r.pc 4)

-- a value goes into a register
abbrev pub set : Registers → ℕ → ℕ → Act
set r rd value = Next (at_next (with_register r rd value)) None

-- to a target, which has to be a multiple of 4
abbrev pub jump_to : Registers → ℕ → Act
jump_to r target = if target % 4 == 0 then Next (at_place r target) None else Faulted fault.JumpTarget

-- a jump leaves the address behind it in a register
abbrev pub jump : Registers → ℕ → ℕ → Act
jump r rd target = jump_to (with_register r rd (plus r.pc 4)) target

-- only a taken branch has a target
abbrev pub branch : Registers → Cond → ℕ → ℕ → ℕ → Act
branch r k rs1 rs2 off =
    if is_taken k (get r rs1) (get r rs2) then jump_to r (plus r.pc off) else Next (at_next r) None

-- a fault in place of the act
abbrev pub faulted_or : Option Fault → Act → Act
faulted_or (Some f) act = Faulted f
faulted_or None act = act
