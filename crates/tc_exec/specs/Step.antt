-- One instruction: what it loads, and what it does. The first check that fails decides.
use Rattle.std.specs.Prelude.{ℕ, ◌*◌, ◌/◌, Bool, Option, Some, None, Result, Ok, Err}
use Rattle.std.specs.Option.{ok_or}
use Rattle.tc_isa.specs.Reading.{decoded}
use Rattle.tc_isa.specs.Registers.{Registers, get}
use Rattle.tc_isa.specs.declared.fault.Fault.{Fault}
use Rattle.tc_isa.specs.declared.fault.Fault.TheVariants as fault
use Rattle.tc_isa.specs.declared.instr.Instr.{Instr}
use Rattle.tc_isa.specs.declared.instr.Instr.TheVariants.{Lui, Auipc, Jal, Jalr, Branch, Load, Store, Imm, Op, Fence, Ecall, Ebreak}
use Rattle.tc_elf.specs.Shown.{Shown}
use Rattle.tc_elf.specs.Places.{fetched}
use Rattle.tc_exec.specs.Arithmetic.{plus, value_of, op_of_imm}
use Rattle.tc_exec.specs.Flow.{at_next, set, jump, branch}
use Rattle.tc_exec.specs.Access.{load_want, load, store}
use Rattle.tc_exec.specs.Calls.{guest_call}
use Rattle.tc_exec.specs.declared.outcome.Act.{Act}
use Rattle.tc_exec.specs.declared.outcome.Act.TheVariants.{Next, Faulted}
use Rattle.tc_exec.specs.declared.outcome.Want.{Want}
use Rattle.tc_exec.specs.declared.outcome.Want.TheVariants.{Nothing}

abbrev pub decoded_from : Option ℕ → Result Instr Fault
decoded_from None = Err fault.Fetch
decoded_from (Some word) = ok_or (decoded word) fault.Illegal

-- the instruction at a place, or why there is none
unfoldable pub instruction_at : Shown → ℕ → Result Instr Fault
instruction_at image pc = decoded_from (fetched image pc)

-- what an instruction loads
unfoldable pub wants_by : Shown → (ℕ → Bool) → Registers → Instr → Want
wants_by image held r (Lui rd imm) = Nothing
wants_by image held r (Auipc rd imm) = Nothing
wants_by image held r (Jal rd off) = Nothing
wants_by image held r (Jalr rd rs1 off) = Nothing
wants_by image held r (Branch k rs1 rs2 off) = Nothing
wants_by image held r (Load kind rd rs1 off) = load_want image held kind (plus (get r rs1) off)
wants_by image held r (Store kind rs1 rs2 off) = Nothing
wants_by image held r (Imm o rd rs1 imm) = Nothing
wants_by image held r (Op o rd rs1 rs2) = Nothing
wants_by image held r (Fence rd rs1 imm) = Nothing
wants_by image held r Ecall = Nothing
wants_by image held r Ebreak = Nothing

-- what an instruction does
unfoldable pub act_by : Shown → (ℕ → Bool) → Registers → ℕ → Instr → Act
act_by image held r answer (Lui rd imm) = set r rd imm
act_by image held r answer (Auipc rd imm) = set r rd (plus r.pc imm)
act_by image held r answer (Jal rd off) = jump r rd (plus r.pc off)
act_by image held r answer (Jalr rd rs1 off) = jump r rd (plus (get r rs1) off / 2 * 2)
act_by image held r answer (Branch k rs1 rs2 off) = branch r k rs1 rs2 off
act_by image held r answer (Load kind rd rs1 off) = load image held r answer kind rd (plus (get r rs1) off)
act_by image held r answer (Store kind rs1 rs2 off) = store image held r kind (plus (get r rs1) off) (get r rs2)
act_by image held r answer (Imm o rd rs1 imm) = set r rd (value_of (op_of_imm o) (get r rs1) imm)
act_by image held r answer (Op o rd rs1 rs2) = set r rd (value_of o (get r rs1) (get r rs2))
act_by image held r answer (Fence rd rs1 imm) = Next (at_next r) None
act_by image held r answer Ecall = guest_call image held r answer
act_by image held r answer Ebreak = Faulted fault.Break

abbrev pub wants_from : Shown → (ℕ → Bool) → Registers → Result Instr Fault → Want
wants_from image held r (Ok instr) = wants_by image held r instr
wants_from image held r (Err f) = Nothing

abbrev pub act_from : Shown → (ℕ → Bool) → Registers → ℕ → Result Instr Fault → Act
act_from image held r answer (Ok instr) = act_by image held r answer instr
act_from image held r answer (Err f) = Faulted f

-- the load that the next instruction needs
unfoldable pub wants_of : Shown → (ℕ → Bool) → Registers → Want
wants_of image held r = wants_from image held r (instruction_at image r.pc)

-- what the next instruction does, where the answer is the loaded number, or 1 for the LOCK of a broken lock
unfoldable pub act_of : Shown → (ℕ → Bool) → Registers → ℕ → Act
act_of image held r answer = act_from image held r answer (instruction_at image r.pc)
