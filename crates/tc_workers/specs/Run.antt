-- What a whole run gives.
use Rattle.std.specs.Prelude.{ℕ, ◌<◌, ◌≤◌, ◌*◌, true, List, All, length, map, min}
use Rattle.tc_isa.specs.declared.options.Options.{Options}
use Rattle.tc_elf.specs.Shown.{Shown}
use Rattle.tc_journal.specs.Handing.{Delegates}
use Rattle.tc_journal.specs.declared.block.Block.{Block}
use Rattle.tc_mutex_spec.specs.Blocks.{IsComplete, end_after}
use Rattle.tc_segment.specs.View.{kept}
use Rattle.tc_context.specs.View.{bare}
use Rattle.tc_law.specs.Lawful.{Lawful, AreStrict}
use Rattle.tc_hall.specs.Made.{IsHallOf}
use Rattle.tc_hall.specs.PassView.{ClosedView, PassView}
use Rattle.tc_hall.specs.Closing.{IsEnd}
use Rattle.tc_queue.specs.Lines.{SeatView}
use Rattle.tc_ready.specs.ReadyView.{AreCrew, ReadyView}
use Rattle.tc_combiner.specs.View.{BenchView}
use Rattle.tc_combiner.specs.Walks.{HaveNoStop}
use Rattle.tc_workers.specs.Crew.{CrewRan}
use Rattle.tc_workers.specs.StepWith.{CanHave}

-- The stamps in the logs of all packages are the numbers from 0 on, each once, and in that order the blocks are a history that
-- tells a run of the image's threads under ordinary mutexes to the end of every thread, and obeys the batch limit. Each package
-- and each lock state is as that run leaves it, and each lock's entries are those of its blocks in that run. The lock states
-- are strict. Among the blocks of its worker each that begins an Adopted section of a lock stands directly behind one that
-- unlocked the lock. And a cut parts no thread from its worker: the worker's next block is of the same thread, and the thread's
-- next block at that worker
pub record IsWholeRun (image : Shown) (o : Options) (c : ClosedView) : Type 0 where
  pub history : List Block
  pub law : Lawful image o.fuel o.limit history (map bare c.packages) (map kept c.locks)
  pub strict : AreStrict c.locks
  pub complete : IsComplete image (end_after image o.fuel history)
  pub workers : All (λ (b : Block). b.worker < o.workers) history
  pub delegates : Delegates history

-- ready threads for each worker, with room for one offer of each section that the threads can have, but for no more than 256
pub record HaveRoom (image : Shown) (o : Options) (ready : List ReadyView) : Type 0 where
  pub room : ℕ
  pub crew : AreCrew o.workers (length image.entries) room ready
  pub enough : (sections : ℕ) → CanHave o.fuel sections → min (length image.entries * sections) 256 ≤ room

-- What the crew of a whole run did: its worker of each number had the row of seats of that number. From a new hall on each worker
-- worked by steps, and nothing else was done; each ended with a step in which it saw that all threads have ended, and none made a
-- stop; and then the hall was closed
pub record IsCrewsRun (image : Shown) (o : Options) (rows : List (List SeatView)) (c : ClosedView) : Type 0 where
  pub bench : BenchView
  pub hall : IsHallOf image o.fuel o.workers o.limit bench.hall
  pub ready : List ReadyView
  pub room : HaveRoom image o ready
  pub pass : PassView
  pub ran : CrewRan bench rows ready pass true
  pub unstopped : HaveNoStop pass.knows.calls
  pub end : IsEnd bench.hall.terms pass.knows c.packages c.locks
