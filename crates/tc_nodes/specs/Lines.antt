-- A NUMA-aware queue as an order of waiters: of a seat's steps, those at which a call was answered.
use Rattle.std.specs.Prelude.{List, [], ◌∷◌}
use Rattle.tc_queue.specs.declared.turn.Departure.TheVariants.{Followed}
use Rattle.tc_queue.specs.View.{QueueView}
use Rattle.tc_queue.specs.Lines as line
use Rattle.tc_nodes.specs.declared.step.Entered.{Entered}
use Rattle.tc_nodes.specs.declared.step.Entered.TheVariants.{First, Behind}
use Rattle.tc_nodes.specs.declared.step.LineStep.{LineStep}
use Rattle.tc_nodes.specs.declared.step.LineStep.TheVariants.{Enter, Link, Take, Read, Next, Stay, Leave, Back}
use Rattle.tc_nodes.specs.View.{NodeQueueView, NodeSeatView}

abbrev pub entered_as : Entered → line.Entered
entered_as First = line.First
entered_as (Behind place) = line.Behind place

abbrev pub calls_as : List LineStep → List line.LineCall
calls_as [] = []
calls_as (Enter u a ∷ cs) = line.Enter u (entered_as a) ∷ calls_as cs
calls_as (Link place u node ∷ cs) = line.Link place u ∷ calls_as cs
calls_as (Take home ∷ cs) = calls_as cs
calls_as (Read number found took ∷ cs) = calls_as cs
calls_as (Next u node a ∷ cs) = line.Next u a ∷ calls_as cs
calls_as (Stay u ∷ cs) = line.Leave u Followed ∷ calls_as cs
calls_as (Leave u d ∷ cs) = line.Leave u d ∷ calls_as cs
calls_as (Back ∷ cs) = calls_as cs

abbrev pub queue_as : NodeQueueView → QueueView
queue_as q = record { table = q.table; threads = q.threads }

abbrev pub seat_as : NodeSeatView → line.SeatView
seat_as s = record { table = s.table; threads = s.threads; calls = calls_as s.calls }
