-- A turn in place is the turn.
use Rattle.tc_turn.proofs.Vocabulary.{◌≡◌, arith, Option, Some, Act, Thread, thread_after, outcome_of, option_map}
use Rattle.tc_exec.specs.InPlace.{regs_after, done_of}
use Rattle.tc_turn.specs.InPlace.{thread_done, with_regs, outcome_done}

-- an act seen by its registers, and what is done beside them
pub same_thread : (d : Thread) (a : Act) → thread_done (with_regs (regs_after a d.regs) d) (done_of a) ≡ thread_after d (Some a)
same_thread d a = grind arith

pub same_outcome : (a : Option Act) → outcome_done (option_map done_of a) ≡ outcome_of a
same_outcome a = grind arith
