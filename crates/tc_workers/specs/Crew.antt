-- The workers of a run at one bench, while they are made and when all have ended.
use Rattle.std.specs.Prelude.{◌≡◌, ◌⊎◌, ℕ, ◌+◌, ◌&&◌, Bool, true, false, List, [], ◌∷◌, ◌++◌, All, length, replicate, None}
use mathlib.Core.Option.{some}
use lib.ListN.{get_elem?}
use Rattle.tc_elf.specs.Shown.{Shown}
use Rattle.tc_hall.specs.declared.board.Knows.{Knows}
use Rattle.tc_hall.specs.Made.{AreDealt}
use Rattle.tc_hall.specs.PassView.{HallView, PassView}
use Rattle.tc_hall.specs.Rule.{threads}
use Rattle.tc_hall.specs.Steps.{HasAll, HasSeenAll, HasStop, IsFree, IsNew, merged}
use Rattle.tc_queue.specs.Lines.{SeatView, IsSeatOf}
use Rattle.tc_queue.specs.View.{QueueView}
use Rattle.tc_ready.specs.ReadyView.{ReadyView}
use Rattle.tc_combiner.specs.View.{BenchView, desk_of}
use Rattle.tc_workers.specs.Turns.{HasWorked}
use Rattle.tc_workers.specs.Worker.{IsAtWork, WorkerView, view_of, worker_of}
use Rattle.tc_workers.specs.declared.worker.Worker.{Worker}

-- one queue for each lock of the image, each made for exactly its number of threads
pub record AreQueues (image : Shown) (queues : List QueueView) : Type 0 where
  pub count : length queues ≡ length image.guards
  pub made : (i : ℕ) (q : QueueView) → get_elem? queues i ≡ some q → q.threads ≡ length image.entries

-- one seat of each queue, in order
pub record AreSeatsOf (queues : List QueueView) (seats : List SeatView) : Type 0 where
  pub count : length seats ≡ length queues
  pub each : (i : ℕ) (q : QueueView) (s : SeatView) → get_elem? queues i ≡ some q → get_elem? seats i ≡ some s → IsSeatOf q s

-- the bench is that of a hall of its image
pub record IsBench (b : BenchView) : Type 0 where
  pub hall : b.hall.terms.image.value ≡ b.image
  pub queues : AreQueues b.image b.queues

-- one queue for each lock of the image, and for each worker a row with one seat of each
pub record AreLines {X : Type 0} (image : Shown) (workers : ℕ) (qs : List QueueView) (seen : X → List SeatView) (xs : List X) : Type 0 where
  pub queues : AreQueues image qs
  pub count : length xs ≡ workers
  pub rows : All (λ row. AreSeatsOf qs (seen row)) xs

-- a pass of the bench's hall, which has done nothing, with seats and ready threads for its worker
pub record IsForHire (b : BenchView) (p : PassView) (ss : List SeatView) (r : ReadyView) : Type 0 where
  pub bench : IsBench b
  pub own : p.table ≡ b.hall.table
  pub new : IsNew b.image (length b.image.entries) (length b.image.guards) p.knows.worker p.knows
  pub seats : AreSeatsOf b.queues ss
  pub ready : r.threads ≡ threads b.hall.terms

-- the passes of the first workers, who have not begun, and for each a row of seats and its ready threads
pub record AreForHire {X : Type 0} (b : BenchView) (seen : X → List SeatView) (ps : List PassView) (xs : List X) (rs : List ReadyView) : Type 0 where
  pub bench : IsBench b
  pub passes : AreDealt b.image (length b.image.entries) (length b.image.guards) (length ps) b.hall.table ps
  pub seats : (length xs ≡ length ps) × All (λ row. AreSeatsOf b.queues (seen row)) xs
  pub ready : (length rs ≡ length ps) × All (λ r. r.threads ≡ threads b.hall.terms) rs

-- the worker of this number, with these seats and these ready threads, who has not begun: its pass has done nothing, nobody
-- sleeps, its clock stands at 0 and nothing is set aside
pub record IsHired (b : BenchView) (number : ℕ) (seats : List SeatView) (ready : ReadyView) (w : WorkerView) : Type 0 where
  pub work : IsAtWork b None w
  pub pass : IsNew b.image (length b.image.entries) (length b.image.guards) number w.desk.pass.knows
  pub is : w ≡ worker_of (desk_of w.desk.pass seats (replicate (threads b.hall.terms) None) 0 None []) ready

-- so many of the workers of a run, the one with the greatest number first: each has the row of seats and the ready threads of
-- its number
pub record AreHired (b : BenchView) (rows : List (List SeatView)) (ready : List ReadyView) (some_of : ℕ) (ws : List WorkerView) : Type 0 where
  pub all : length ws ≡ some_of
  pub each : (i number : ℕ) (w : WorkerView) (row : List SeatView) (r : ReadyView) → get_elem? ws i ≡ some w → number + i + 1 ≡ length rows → get_elem? rows number ≡ some row → get_elem? ready number ≡ some r → IsHired b number row r w

-- the pass is that of the worker with this number, or that worker's was joined into it
abbrev pub Counts : Knows → ℕ → Type 0
Counts v u = (u ≡ v.worker) ⊎ ((e : ℕ) × (get_elem? v.joined e ≡ some u))

-- the pass of each of these workers is this one, or was joined into it
abbrev pub CountsAll : Knows → List WorkerView → Type 0
CountsAll v ws = (i : ℕ) (w : WorkerView) → get_elem? ws i ≡ some w → Counts v w.desk.pass.knows.worker

-- these workers are at work, with nothing in hand
abbrev pub AreAtWork : {Q S P : Type 0} → BenchView → List (Worker Q S P) → Type 0
AreAtWork {Q = Q} {S = S} {P = P} b ws = (i : ℕ) (w : Worker Q S P) → get_elem? ws i ≡ some w → IsAtWork b None (view_of w)

-- the workers of this pass of the hall have ended: nothing is out with it, and it has seen each thread done, where they say so,
-- or else that a stop was made
pub record HasEnded (hall : HallView) (p : PassView) (all_done : Bool) : Type 0 where
  pub own : p.table ≡ hall.table
  pub free : IsFree p.knows
  pub done : all_done ≡ true → HasSeenAll (threads hall.terms) p.knows
  pub stopped : all_done ≡ false → HasStop p.knows

-- these workers worked by steps, each to its end, and nothing was done beside their steps: what the pass of the last of them knows
-- then, with the passes of the others joined into it one after another, and whether each of them saw all threads done
pub data HaveWorked (b : BenchView) : List WorkerView → Knows → Bool → Type 0 where
  one : (w : WorkerView) (p : PassView) (all_done : Bool) → HasWorked b w p all_done → HaveWorked b (w ∷ []) p.knows all_done
  more : (ws : List WorkerView) (v : Knows) (others_done : Bool) (w : WorkerView) (p : PassView) (all_done : Bool) → HaveWorked b ws v others_done → HasWorked b w p all_done → HaveWorked b (ws ++ w ∷ []) (merged p.knows v) (all_done && others_done)

-- all of these have ended: the pass of each is this one or was joined into it
pub record HaveFinished (b : BenchView) (ws : List WorkerView) (p : PassView) (all_done : Bool) : Type 0 where
  pub all : CountsAll p.knows ws
  pub worked : HaveWorked b ws p.knows all_done
  pub end : HasEnded b.hall p all_done

-- a crew ran, whose worker of each number had the row of seats and the ready threads of that number: none of them had begun, and
-- each worked to its end
pub record CrewRan (b : BenchView) (rows : List (List SeatView)) (ready : List ReadyView) (p : PassView) (all_done : Bool) : Type 0 where
  pub crew : List WorkerView
  pub hired : AreHired b rows ready (length rows) crew
  pub members : length ready ≡ length rows
  pub finished : HaveFinished b crew p all_done

-- all workers of a run in this hall have, so many of them
pub record HasRun (hall : HallView) (count : ℕ) (p : PassView) (all_done : Bool) : Type 0 where
  pub all : HasAll count p.knows
  pub end : HasEnded hall p all_done
