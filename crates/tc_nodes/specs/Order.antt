-- The invariant of a NUMA-aware queue: all steps have a total order that respects the order of each
-- seat's steps, in which a sequential queue answers each of them as it was answered, and whose
-- final state the words, the slot and what the seats hold represent.
use Rattle.std.specs.Prelude.{◌≡◌, ◌≢◌, ℕ, ◌+◌, ◌^◌, ◌%◌, ◌<◌, ◌≤◌, ◌==◌, Bool, true, false, if◌then◌else◌, List, [], ◌∷◌, ◌++◌, All, length, slice_index, Option, Some, None}
use mathlib.Core.Option as maybe
use mathlib.Core.Option.{some, none}
use lib.ListN.{get_elem?}
use Rattle.atomic_table.specs.Table.{State}
use Rattle.tc_queue.specs.declared.turn.Turn.{Turn}
use Rattle.tc_queue.specs.declared.turn.Departure.{Departure}
use Rattle.tc_queue.specs.declared.turn.Departure.TheVariants.{Left, Followed}
use Rattle.tc_queue.specs.Words.{IsTurn}
use Rattle.tc_nodes.specs.declared.cells.Placed.{Placed}
use Rattle.tc_nodes.specs.declared.step.Entered.{Entered}
use Rattle.tc_nodes.specs.declared.step.Entered.TheVariants.{First, Behind}
use Rattle.tc_nodes.specs.declared.step.LineStep.{LineStep}
use Rattle.tc_nodes.specs.declared.step.LineStep.TheVariants.{Enter, Link, Take, Read, Next, Stay, Leave, Back}
use Rattle.tc_nodes.specs.declared.board.Stand.{Stand}
use Rattle.tc_nodes.specs.declared.board.NodeTerms.{NodeTerms}
use Rattle.tc_nodes.specs.declared.board.Known.{Known}
use Rattle.tc_nodes.specs.Line.{is_refused, arrived, picked, line_after, with_waiting}
use Rattle.tc_nodes.specs.Cells.{word_of_cell}

-- ---- answers

-- incremented by one, modulo 2^64
abbrev pub next_to : ℕ → ℕ
next_to n = (n + 1) % 2 ^ 64

abbrev pub answer_to_enter : ℕ → Entered
answer_to_enter found = if found == 0 then First else Behind found

-- everyone who entered was read, except the first
abbrev pub answer_to_leave : ℕ → Stand → Departure
answer_to_leave found h = if found == next_to h.read then Left else Followed

abbrev pub enter_call : Turn → ℕ → LineStep
enter_call u found = Enter u (answer_to_enter found)

-- whether the line accepts what was found in a cell
abbrev pub takes_in : Option Placed → Stand → Bool
takes_in None h = false
takes_in (Some p) h = if is_refused p.turn h.line then false else true

-- the line after a cell was read, after a pick, and after the exchange of `leave`
abbrev pub stand_after : Option Placed → Stand → Stand
stand_after None h = h
stand_after (Some p) h = record { line = arrived p.turn p.node h.line; read = next_to h.read }

abbrev pub pick_of : ℕ → Stand → Option Turn
pick_of node h = picked h.line.bound node h.line.waiting

abbrev pub without_pick : ℕ → Stand → Stand
without_pick node h = record h { line = with_waiting (line_after (pick_of node h) h.line.waiting) h.line }

abbrev pub stand_left : Departure → Stand → Stand
stand_left Left h = record h { read = 0 }
stand_left Followed h = h

-- ---- a sequential queue

-- how many entered since nobody was there, the cells, who has the line out, and the line
pub record Plain : Type 0 where
  pub entered : ℕ
  pub cells : ℕ → Option Placed
  pub holder : Option ℕ
  pub stand : Stand

abbrev pub empty_stand : NodeTerms → Stand
empty_stand k = record { line = record { threads = k.threads; bound = k.bound; waiting = [] }; read = 0 }

abbrev pub empty_queue : NodeTerms → Plain
empty_queue k = record { entered = 0; cells = λ _. None; holder = None; stand = empty_stand k }

-- with this value in a cell
abbrev pub with_cell : ℕ → Option Placed → Plain → Plain
with_cell j c q = record q { cells = λ i. if i == j then c else q.cells i }

abbrev pub home_with : Stand → Plain → Plain
home_with h q = record q { holder = None; stand = h }

abbrev pub entered_left : Departure → ℕ → ℕ
entered_left Left n = 0
entered_left Followed n = n

-- reading an empty cell leaves it empty; reading a full one empties it
abbrev pub plain_after : Plain → ℕ → LineStep → Plain
plain_after q id (Enter u a) = record q { entered = next_to q.entered }
plain_after q id (Link place u node) = with_cell (place % 64) (Some (record { turn = u; node = node })) q
plain_after q id (Take true) = record q { holder = Some id }
plain_after q id (Take false) = q
plain_after q id (Read number found took) = record (with_cell (number % 64) None q) { stand = stand_after found q.stand }
plain_after q id (Next u node a) = home_with (without_pick node q.stand) q
plain_after q id (Stay u) = home_with q.stand q
plain_after q id (Leave u d) = record q { entered = entered_left d q.entered; stand = stand_left d q.stand }
plain_after q id Back = home_with q.stand q

-- u entered behind so many, and has not been linked since
abbrev pub MayLink : List LineStep → Turn → ℕ → Type 0
MayLink calls u place = (i : ℕ) × (get_elem? calls i ≡ some (Enter u (Behind place))) × ((j other node : ℕ) → i < j → get_elem? calls j ≢ some (Link other u node))

abbrev pub is_home : Option ℕ → Bool
is_home None = true
is_home (Some id) = false

-- a seat with this list may make the step, and the queue answers this
abbrev pub MayCome : NodeTerms → Plain → ℕ → List LineStep → LineStep → Type 0
MayCome k q id calls (Enter u a) = IsTurn k.threads u × (a ≡ answer_to_enter q.entered)
MayCome k q id calls (Link place u node) = IsTurn k.threads u × (node < 8) × MayLink calls u place
MayCome k q id calls (Take home) = home ≡ is_home q.holder
MayCome k q id calls (Read number found took) = (q.holder ≡ Some id) × (number ≡ next_to q.stand.read) × (found ≡ q.cells (number % 64)) × (took ≡ takes_in found q.stand)
MayCome k q id calls (Next u node a) = (q.holder ≡ Some id) × IsTurn k.threads u × (a ≡ pick_of node q.stand)
MayCome k q id calls (Stay u) = (q.holder ≡ Some id) × IsTurn k.threads u × (q.stand.line.waiting ≢ [])
MayCome k q id calls (Leave u d) = (q.holder ≡ Some id) × IsTurn k.threads u × (q.stand.line.waiting ≡ []) × (d ≡ answer_to_leave q.entered q.stand)
MayCome k q id calls Back = q.holder ≡ Some id

-- ---- the order of all steps, the latest first

-- a step, and the number of the seat that made it
pub record Made : Type 0 where
  pub seat : ℕ
  pub call : LineStep

-- the steps of one seat, in order
abbrev pub calls_of : ℕ → List Made → List LineStep
calls_of id [] = []
calls_of id (m ∷ before) = if m.seat == id then calls_of id before ++ m.call ∷ [] else calls_of id before

abbrev pub queue_after : NodeTerms → List Made → Plain
queue_after k [] = empty_queue k
queue_after k (m ∷ before) = plain_after (queue_after k before) m.seat m.call

abbrev pub IsLegal : NodeTerms → List Made → Type 0
IsLegal k [] = Unit {0}
IsLegal k (m ∷ before) = MayCome k (queue_after k before) m.seat (calls_of m.seat before) m.call × IsLegal k before

-- ---- the words, the slot and what the seats hold

abbrev pub line_word : Option ℕ → ℕ
line_word None = 0
line_word (Some id) = 1

pub record AreWords (words : List ℕ) (q : Plain) : Type 0 where
  pub count : length words ≡ 66
  pub entered : slice_index words 0 ≡ q.entered
  pub line : slice_index words 1 ≡ line_word q.holder
  pub cells : (j : ℕ) → j < 64 → slice_index words (j + 2) ≡ word_of_cell (q.cells j)

-- the line is in its slot if nobody has it out
abbrev pub slot_of : Option ℕ → Stand → maybe.Option Stand
slot_of None h = some h
slot_of (Some id) h = none

-- what the seat holds
abbrev pub hand_of : ℕ → Option ℕ → Stand → Option Stand
hand_of id None h = None
hand_of id (Some holder) h = if holder == id then Some h else None

abbrev pub known_of : NodeTerms → Plain → List LineStep → ℕ → Known
known_of k q calls id = record { threads = k.threads; bound = k.bound; calls = calls; hand = hand_of id q.holder q.stand }

abbrev pub first_known : NodeTerms → Known
first_known k = record { threads = k.threads; bound = k.bound; calls = []; hand = None }

-- a new seat beside a given one
abbrev pub known_beside : Known → Known
known_beside v = record { threads = v.threads; bound = v.bound; calls = []; hand = None }

-- ---- the invariant

pub record IsOrdered (k : NodeTerms) (s : State Stand Known) : Type 0 where
  pub few : k.threads ≤ 64
  pub order : List Made
  pub legal : IsLegal k order
  pub words : AreWords s.words (queue_after k order)
  pub slot : s.homes ≡ slot_of (queue_after k order).holder (queue_after k order).stand ∷ []
  pub seats : (id : ℕ) (v : Known) → get_elem? s.views id ≡ some v → v ≡ known_of k (queue_after k order) (calls_of id order) id
  pub made : All (λ m. m.seat < length s.views) order
