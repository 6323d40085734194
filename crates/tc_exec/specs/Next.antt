-- The next instruction: what its calls ask and answer.
use Rattle.std.specs.Prelude.{◌≡◌, ℕ, Bool, Option, IfSome, Ok}
use Rattle.std.specs.Borrow.{Bor}
use Rattle.tc_isa.specs.Registers.{Registers, get}
use Rattle.tc_isa.specs.declared.instr.Instr.{Instr}
use Rattle.tc_elf.specs.Shown.{Shown}
use Rattle.tc_exec.specs.Step.{instruction_at, wants_of, act_of}
use Rattle.tc_exec.specs.Told.{IsWant, IsAct, taken_by}
use Rattle.tc_exec.specs.declared.code.Ahead.{Ahead}
use Rattle.tc_exec.specs.declared.outcome.Act.{Act}
use Rattle.tc_exec.specs.declared.outcome.Want.{Want}

-- this is the next instruction, and the load that it needs
pub record IsNextWith (image : Shown) (held : ℕ → Bool) (r : Registers) (next : Instr) (wanted : Want) : Type 0 where
  pub instr : instruction_at image r.pc ≡ Ok next
  pub want : wanted ≡ wants_of image held r

-- it is the load that the next instruction needs, and one that may be made
pub record IsWantOf (image : Shown) (held : ℕ → Bool) (r : Registers) (wanted : Want) : Type 0 where
  pub value : wanted ≡ wants_of image held r
  pub told : IsWant image held wanted

-- it is what the next instruction does with an answer, and may be done
pub record IsActOf (image : Shown) (held : ℕ → Bool) (r : Registers) (answer : ℕ) (act : Act) : Type 0 where
  pub value : act ≡ act_of image held r answer
  pub told : IsAct image held r act

-- ---- what is known of it

-- the instruction at a place, where it is known
abbrev pub IsInstrAt : Shown → ℕ → Option (Bor Instr) → Type 0
IsInstrAt image pc known = IfSome known (λ instr. instruction_at image pc ≡ Ok instr.now)

-- the code is that of the image, and the instruction that is known is the one at the place
pub record KnowsCode (image of : Shown) (pc : ℕ) (instr : Option (Bor Instr)) : Type 0 where
  pub code : of ≡ image
  pub known : IsInstrAt image pc instr

-- x17 has the number of LOCK, and the instruction that is known is the one at the place
pub record MayCallLock (image : Shown) (r : Registers) (instr : Option (Bor Instr)) : Type 0 where
  pub number : get r 17 ≡ 1
  pub known : IsInstrAt image r.pc instr

-- it is the lock that the next instruction takes, whatever is answered, and that instruction, where it is known
pub record LooksAhead (image : Shown) (held : ℕ → Bool) (r : Registers) (ahead : Ahead) : Type 0 where
  pub lock : (answer : ℕ) → ahead.lock ≡ taken_by (act_of image held r answer)
  pub instr : IsInstrAt image r.pc ahead.instr
