-- The run of a crew as a run of the abstract machine.
use Rattle.std.specs.Prelude.{List}
use Rattle.tc_isa.specs.declared.options.Options.{Options}
use Rattle.tc_elf.specs.Shown.{Shown}
use Rattle.tc_hall.specs.PassView.{ClosedView}
use Rattle.tc_queue.specs.Lines.{SeatView}
use Rattle.tc_run.specs.End.{AreRun}
use Rattle.tc_workers.specs.Run.{IsCrewsRun}

-- What a crew did at the lines of its hall. The operations of all passes, in one order from a new hall on that has the joined
-- lists of the workers as its parts, are enabled events of the abstract machine, after which the hall represents the machine,
-- each line with its tail; each lock was given to the turns that entered its line, in the order of entry; and the events write
-- the history of all blocks, which leaves packages and lock states as the hall gave them
pub record IsMachineRun (image : Shown) (o : Options) (rows : List (List SeatView)) (c : ClosedView) : Type 0 where
  pub crew : IsCrewsRun image o rows c
  pub ran : AreRun crew.bench.hall.terms crew.pass.knows crew.end.history crew.end.steps
