-- What is known of a thread's next turn.
use Rattle.std.specs.Prelude.{◌≡◌}
use Rattle.tc_elf.specs.Shown.{Shown}
use Rattle.tc_exec.specs.Next.{IsInstrAt}
use Rattle.tc_exec.specs.declared.code.Ahead.{Ahead}
use Rattle.tc_turn.specs.Turn.{Thread, next_lock}

-- it is the lock that the next turn takes, and the instruction that is done in it
pub record IsAhead (image : Shown) (d : Thread) (ahead : Ahead) : Type 0 where
  pub lock : ahead.lock ≡ next_lock image d
  pub instr : IsInstrAt image d.regs.pc ahead.instr
