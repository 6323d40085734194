-- The run of a hall with lines that was closed: all operations of all passes are a run of the abstract machine, which writes the
-- history that the hall had at its end.
use Rattle.std.specs.Prelude.{◌≡◌, true, List}
use Rattle.tc_journal.specs.declared.block.Block.{Block}
use Rattle.tc_told.specs.Written.{history_of}
use Rattle.tc_hall.specs.declared.board.HallTerms.{HallTerms}
use Rattle.tc_hall.specs.declared.board.Knows.{Knows}
use Rattle.tc_hall.specs.Closing.{HasSteps, MadeNone}
use Rattle.tc_run.specs.Run.{IsRun, events_in}

-- the operations of these steps, in their one order, are a run, whose events write the history
pub record AreRun (k : HallTerms) (v : Knows) (history : List Block) (steps : HasSteps k v history) : Type 0 where
  pub run : IsRun k steps.ordered.first steps.ordered.order
  pub writes : history_of k.image.value k.fuel (events_in k steps.ordered.order) ≡ history

-- in a hall with lines, where no pass made a stop
abbrev pub EndsAsMachine : Type 0
EndsAsMachine = (k : HallTerms) (v : Knows) (history : List Block) (steps : HasSteps k v history) → k.lined ≡ true → MadeNone v → AreRun k v history steps
