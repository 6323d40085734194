-- What contracts see of a NUMA-aware queue and of its seats.
use Rattle.std.specs.Prelude.{◌≡◌, ◌≢◌, ◌⊎◌, ℕ, ◌%◌, ◌≤◌, Bool, false, true, is_some, MatchBool, List, [], ◌∷◌, ◌++◌, All, length, Option, Some, None}
use mathlib.Core.Option.{some}
use lib.ListN.{get_elem?}
use Rattle.atomic_table.specs.Seated.{TableId}
use Rattle.atomic_table.specs.declared.shared.Seat.{Seat}
use Rattle.tc_queue.specs.declared.turn.Turn.{Turn}
use Rattle.tc_queue.specs.declared.turn.Departure.{Departure}
use Rattle.tc_queue.specs.declared.turn.Departure.TheVariants.{Followed}
use Rattle.tc_queue.specs.Words.{IsTurn}
use Rattle.tc_nodes.specs.declared.cells.Placed.{Placed}
use Rattle.tc_nodes.specs.declared.step.LineStep.{LineStep}
use Rattle.tc_nodes.specs.declared.step.LineStep.TheVariants.{Take, Read, Next, Stay, Leave, Back}
use Rattle.tc_nodes.specs.declared.board.Stand.{Stand}
use Rattle.tc_nodes.specs.declared.board.NodeTerms.{NodeTerms}
use Rattle.tc_nodes.specs.declared.board.Known.{Known}
use Rattle.tc_nodes.specs.Steps.{Sitting, IsLineFor, IsFound, Holds, Took, missed, with_hand, did_read, did_next, did_leave}
use Rattle.tc_nodes.specs.Order.{MayLink, next_to, takes_in, stand_after, pick_of, without_pick, answer_to_leave, stand_left}

pub record NodeQueueView : Type 0 where
  pub table : TableId
  pub threads : ℕ
  pub bound : ℕ

pub record NodeSeatView : Type 0 where
  pub table : TableId
  pub id : ℕ
  pub threads : ℕ
  pub bound : ℕ
  pub node : ℕ
  pub calls : List LineStep

abbrev pub queue_view : TableId → ℕ → ℕ → NodeQueueView
queue_view table threads bound = record { table = table; threads = threads; bound = bound }

abbrev pub seat_view : TableId → ℕ → ℕ → Known → NodeSeatView
seat_view table id node v = record { table = table; id = id; threads = v.threads; bound = v.bound; node = node; calls = v.calls }

abbrev pub IsSeatOf : NodeQueueView → NodeSeatView → Type 0
IsSeatOf q s = (s.table ≡ q.table) × (s.threads ≡ q.threads)

-- the turn may be linked at a place that its `enter` answered, with this seat of the queue
pub record MayLinkAt (q : NodeQueueView) (s : NodeSeatView) (u : Turn) (place : ℕ) : Type 0 where
  pub seat : IsSeatOf q s
  pub turn : IsTurn q.threads u
  pub entered : MayLink s.calls u place

abbrev pub with_calls : List LineStep → NodeSeatView → NodeSeatView
with_calls cs s = record s { calls = s.calls ++ cs }

-- a seat of this queue and node without steps
pub record IsNewSeat (q : NodeQueueView) (number : ℕ) (s : NodeSeatView) : Type 0 where
  pub table : s.table ≡ q.table
  pub threads : s.threads ≡ q.threads
  pub bound : s.bound ≡ q.bound
  pub node : s.node ≡ number
  pub calls : s.calls ≡ []

-- seat w is on node w modulo the number of nodes
abbrev pub AreNewSeats : NodeQueueView → ℕ → List NodeSeatView → Type 0
AreNewSeats q nodes seats = (w : ℕ) (s : NodeSeatView) → get_elem? seats w ≡ some s → IsNewSeat q (w % nodes) s

-- a queue for so many threads with this bound that was just made, with so many seats on so many nodes
pub record IsOpened (threads bound many nodes : ℕ) (q : NodeQueueView) (made : List NodeSeatView) : Type 0 where
  pub queue : (q.threads ≡ threads) × (q.bound ≡ bound)
  pub count : length made ≡ many
  pub own : All (IsSeatOf q) made
  pub seats : AreNewSeats q nodes made

-- so many seats may be on so many nodes
abbrev pub MaySeat : ℕ → ℕ → Type 0
MaySeat many nodes = (1 ≤ nodes) × (nodes ≤ many) × (many ≤ 8)

-- the line was out at each try
abbrev pub AreMisses : List LineStep → Type 0
AreMisses [] = Unit {0}
AreMisses (c ∷ cs) = (c ≡ Take false) × AreMisses cs

-- the line was out so often, and then taken
pub record AreTries (calls : List LineStep) : Type 0 where
  pub misses : List LineStep
  pub missed : AreMisses misses
  pub list : calls ≡ misses ++ Take true ∷ []

-- cells were read in order; the first line became the second, and the last cell was empty
abbrev pub AreReads : Stand → List LineStep → Stand → Type 0
AreReads h [] g = ⊥
AreReads h (c ∷ cs) g = ((c ≡ Read (next_to h.read) None false) × (cs ≡ []) × (g ≡ h)) ⊎ ((p : Placed) × (c ≡ Read (next_to h.read) (Some p) (takes_in (Some p) h)) × AreReads (stand_after (Some p) h) cs g)

-- what `next` of u for this node did: took the line, read cells up to an empty one, put the line back with this answer
pub record DidNext (u : Turn) (node : ℕ) (answer : Option Turn) (s t : NodeSeatView) : Type 0 where
  pub tries : List LineStep
  pub found : Stand
  pub reads : List LineStep
  pub stand : Stand
  pub tried : AreTries tries
  pub did_read : AreReads found reads stand
  pub own : IsLineFor s.threads s.bound stand.line
  pub answered : answer ≡ pick_of node stand
  pub list : t ≡ with_calls (tries ++ (reads ++ Next u node answer ∷ [])) s

-- what `leave` of u did: it took the line; if somebody waited it put it back; otherwise it tried
-- the exchange, which found this count, and then put the line back
pub data DidLeaveBy (u : Turn) (answer : Departure) (tries : List LineStep) (s t : NodeSeatView) : Type 0 where
  Stayed : answer ≡ Followed → t ≡ with_calls (tries ++ Stay u ∷ []) s → DidLeaveBy u answer tries s t
  Exchanged : (found : ℕ) (stand : Stand) → stand.line.waiting ≡ [] → answer ≡ answer_to_leave found stand → t ≡ with_calls (tries ++ Leave u answer ∷ Back ∷ []) s → DidLeaveBy u answer tries s t

pub record DidLeave (u : Turn) (answer : Departure) (s t : NodeSeatView) : Type 0 where
  pub tries : List LineStep
  pub tried : AreTries tries
  pub did : DidLeaveBy u answer tries s t

-- a table of these parameters belongs to a queue
pub record IsTableFor (threads bound : ℕ) (k : NodeTerms) (table : TableId) : Type 0 where
  pub of_threads : threads ≡ k.threads
  pub of_bound : bound ≡ k.bound
  pub words : table.words ≡ 66
  pub slots : table.slots ≡ 1
  pub few : threads ≤ 64
  pub bounded : bound ≤ 256

-- ---- inside a call

-- the place of one seat, before and after some steps
abbrev pub IsSamePlace : Seat Stand Known → Seat Stand Known → Type 0
IsSamePlace p q = (q.table_id ≡ p.table_id) × (q.id ≡ p.id)

-- a place of this queue whose seat satisfies this
pub record IsAt (q : NodeQueueView) (state : Sitting → Type 0) (p : Seat Stand Known) : Type 0 where
  pub own : p.table_id ≡ q.table
  pub holds : state p.me

-- and a step may be made from there for this turn, which the step names
pub record MayStepAt (q : NodeQueueView) (state : Sitting → Type 0) (u named : Turn) (p : Seat Stand Known) : Type 0 where
  pub at : IsAt q state p
  pub turn : IsTurn q.threads u
  pub picked : u ≡ named

-- the place of one seat, before and after steps that did this
pub record DidAt (steps : Sitting → Sitting → Type 0) (p q : Seat Stand Known) : Type 0 where
  pub same : IsSamePlace p q
  pub did : steps p.me q.me

-- a try for the line, which was in its slot or out
pub record Tries (home : Bool) (m m' : Sitting) : Type 0 where
  pub took : home ≡ true → Took m m'
  pub missed : home ≡ false → m' ≡ (missed m.0, [])

-- the number of the cell that is read next; nothing was done
abbrev pub IsNextCell : ℕ → Sitting → Sitting → Type 0
IsNextCell number m m' = (m' ≡ m) × ((h : Stand) → Holds h m → number ≡ next_to h.read)

-- what is in the seat's slot was changed like this, and nothing else
abbrev pub Becomes : (Stand → Stand) → Sitting → Sitting → Type 0
Becomes change m m' = (m'.0 ≡ m.0) × ((h : Stand) → m.1 ≡ (0, h) ∷ [] → m'.1 ≡ (0, change h) ∷ [])

-- the answer is what this node picks from the line that the seat holds, which loses it
abbrev pub Picks : ℕ → Option Turn → Sitting → Sitting → Type 0
Picks node answer m m' = ((h : Stand) → Holds h m → answer ≡ pick_of node h) × Becomes (without_pick node) m m'

-- the answer says whether somebody waits in the line that the seat has out; nothing was done
abbrev pub TellsWaiting : Bool → Sitting → Sitting → Type 0
TellsWaiting some_one m m' = (m' ≡ m) × ((h : Stand) → Holds h m → MatchBool some_one (h.line.waiting ≢ []) (h.line.waiting ≡ []))

-- the line was put back without the turn that this node picks, which is the answer
abbrev pub DidReturn : Turn → ℕ → Option Turn → Sitting → Sitting → Type 0
DidReturn u node answer m m' = (h : Stand) → Holds h m → (answer ≡ pick_of node h) × (m' ≡ (did_next u node h m.0, []))

abbrev pub with_all : List LineStep → Known → Known
with_all cs v = record v { calls = v.calls ++ cs }

-- the line was taken
pub record IsTaken (m m' : Sitting) : Type 0 where
  pub tries : List LineStep
  pub tried : AreTries tries
  pub stand : Stand
  pub line : IsLineFor m.0.threads m.0.bound stand.line
  pub now : m' ≡ (with_hand (Some stand) (with_all tries m.0), (0, stand) ∷ [])

-- the next cell was read
pub record DidRead (some_one : Bool) (m m' : Sitting) : Type 0 where
  pub stand : Stand
  pub was : Holds stand m
  pub found : Option Placed
  pub answer : some_one ≡ is_some found
  pub in_range : IsFound m.0.threads found
  pub now : m' ≡ (did_read found stand m.0, (0, stand_after found stand) ∷ [])

-- cells were read up to an empty one
pub record IsFilled (m m' : Sitting) : Type 0 where
  pub found : Stand
  pub was : Holds found m
  pub reads : List LineStep
  pub stand : Stand
  pub did_read : AreReads found reads stand
  pub line : IsLineFor m.0.threads m.0.bound stand.line
  pub now : m' ≡ (with_hand (Some stand) (with_all reads m.0), (0, stand) ∷ [])

-- the exchange of `leave` of u
pub record DidExchange (u : Turn) (answer : Departure) (m m' : Sitting) : Type 0 where
  pub stand : Stand
  pub was : Holds stand m
  pub none_waits : stand.line.waiting ≡ []
  pub found : ℕ
  pub answered : answer ≡ answer_to_leave found stand
  pub now : m' ≡ (did_leave u answer stand m.0, (0, stand_left answer stand) ∷ [])
