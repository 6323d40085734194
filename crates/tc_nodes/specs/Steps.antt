-- What each kind of step says to its seat.
use Rattle.std.specs.Prelude.{◌≡◌, ◌≢◌, ℕ, ◌+◌, ◌%◌, true, false, List, [], ◌∷◌, ◌++◌, Option, Some, None}
use Rattle.atomic_table.specs.Table.{Me, Step, rest}
use Rattle.tc_queue.specs.declared.turn.Turn.{Turn}
use Rattle.tc_queue.specs.declared.turn.Departure.{Departure}
use Rattle.tc_queue.specs.Words.{IsTurn}
use Rattle.tc_nodes.specs.declared.line.Waiter.{Waiter}
use Rattle.tc_nodes.specs.declared.cells.Placed.{Placed}
use Rattle.tc_nodes.specs.declared.step.LineStep.{LineStep}
use Rattle.tc_nodes.specs.declared.step.LineStep.TheVariants.{Enter, Link, Take, Read, Next, Stay, Leave, Back}
use Rattle.tc_nodes.specs.declared.board.Stand.{Stand}
use Rattle.tc_nodes.specs.declared.board.Known.{Known}
use Rattle.tc_nodes.specs.Line.{LineView, IsSteady}
use Rattle.tc_nodes.specs.Cells.{IsPlaced, cell_at, cell_word}
use Rattle.tc_nodes.specs.Order.{next_to, answer_to_enter, answer_to_leave, takes_in, stand_after, pick_of, stand_left}

-- the ghost state of a seat, and its slots
abbrev pub Sitting : Type 0
Sitting = Me Stand Known

abbrev pub with_call : Known → LineStep → Known
with_call v c = record v { calls = v.calls ++ c ∷ [] }

-- holding the line, or without it
abbrev pub with_hand : Option Stand → Known → Known
with_hand hand v = record v { hand = hand }

-- each waiting turn is one of a queue for so many threads
abbrev pub AreTurns : ℕ → List Waiter → Type 0
AreTurns n [] = Unit {0}
AreTurns n (w ∷ ws) = IsTurn n w.turn × AreTurns n ws

-- a line of a queue for so many threads with this bound: no waiter in it was passed over more often than the bound says
pub record IsLineFor (threads bound : ℕ) (l : LineView) : Type 0 where
  pub of_threads : l.threads ≡ threads
  pub of_bound : l.bound ≡ bound
  pub turns : AreTurns threads l.waiting
  pub steady : IsSteady bound l.waiting

-- what was found in a cell belongs to such a queue
abbrev pub IsFound : ℕ → Option Placed → Type 0
IsFound n found = (p : Placed) → found ≡ Some p → IsPlaced n p

-- ---- effects

abbrev pub took : Stand → Known → Known
took h v = with_hand (Some h) (with_call v (Take true))

abbrev pub missed : Known → Known
missed v = with_call v (Take false)

abbrev pub did_read : Option Placed → Stand → Known → Known
did_read found h v = with_hand (Some (stand_after found h)) (with_call v (Read (next_to h.read) found (takes_in found h)))

abbrev pub did_next : Turn → ℕ → Stand → Known → Known
did_next u node h v = with_hand None (with_call v (Next u node (pick_of node h)))

abbrev pub did_stay : Turn → Known → Known
did_stay u v = with_hand None (with_call v (Stay u))

abbrev pub did_leave : Turn → Departure → Stand → Known → Known
did_leave u d h v = with_hand (Some (stand_left d h)) (with_call v (Leave u d))

abbrev pub did_put_back : Known → Known
did_put_back v = with_hand None (with_call v Back)

-- ---- holding the line

-- the seat has the line out, with h in its slot
pub record Holds (h : Stand) (m : Sitting) : Type 0 where
  pub slot : m.1 ≡ (0, h) ∷ []
  pub hand : m.0.hand ≡ Some h

abbrev pub HasLine : Sitting → Type 0
HasLine m = (h : Stand) × Holds h m

-- and it is the line of the seat's queue
abbrev pub HasOwnLine : Sitting → Type 0
HasOwnLine m = (h : Stand) × Holds h m × IsLineFor m.0.threads m.0.bound h.line

-- somebody waits in the line that the seat has out, or nobody does
abbrev pub HasWaiter : Sitting → Type 0
HasWaiter m = (h : Stand) × Holds h m × (h.line.waiting ≢ [])

abbrev pub HasNoWaiter : Sitting → Type 0
HasNoWaiter m = (h : Stand) × Holds h m × (h.line.waiting ≡ [])

-- the seat has no slot
abbrev pub HasNoSlot : Sitting → Type 0
HasNoSlot m = m.1 ≡ []

-- a line is in the slot of the seat
abbrev pub HasSlot : Sitting → Type 0
HasSlot m = (h : Stand) × (m.1 ≡ (0, h) ∷ [])

-- ---- the steps

-- a fetch-and-add of 1 on the count
pub record Enters (u : Turn) (step : Step Stand) (m : Sitting) (word : ℕ) (m' : Sitting) : Type 0 where
  pub place : step.word ≡ 0
  pub amount : step.first ≡ 1
  pub now : m' ≡ (with_call m.0 (Enter u (answer_to_enter word)), m.1)

-- a store of u into its cell
pub record Links (place : ℕ) (u : Turn) (node : ℕ) (step : Step Stand) (m : Sitting) (word : ℕ) (m' : Sitting) : Type 0 where
  pub cell : step.word ≡ place % 64 + 2
  pub word_left : step.first ≡ cell_word (record { turn = u; node = node })
  pub now : m' ≡ (with_call m.0 (Link place u node), m.1)

-- the line was in its slot, and the seat now holds it
pub record Took (m m' : Sitting) : Type 0 where
  pub stand : Stand
  pub line : IsLineFor m.0.threads m.0.bound stand.line
  pub now : m' ≡ (took stand m.0, (0, stand) ∷ m.1)

-- a compare-and-swap on the word of the line from 0 to 1
pub record Takes (step : Step Stand) (m : Sitting) (word : ℕ) (m' : Sitting) : Type 0 where
  pub place : step.word ≡ 1
  pub words : (step.first ≡ 0) × (step.second ≡ 1)
  pub here : word ≡ 0 → Took m m'
  pub away : word ≢ 0 → m' ≡ (missed m.0, m.1)

-- a swap of the next cell with 0
pub record Reads (step : Step Stand) (m : Sitting) (word : ℕ) (m' : Sitting) : Type 0 where
  pub stand : Stand
  pub hand : m.0.hand ≡ Some stand
  pub place : step.word ≡ next_to stand.read % 64 + 2
  pub left : step.first ≡ 0
  pub in_range : IsFound m.0.threads (cell_at word)
  pub now : m' ≡ (did_read (cell_at word) stand m.0, m.1)

-- a store of 0 to the word of the line, after a turn was picked from it
pub record Returns (u : Turn) (node : ℕ) (step : Step Stand) (m : Sitting) (word : ℕ) (m' : Sitting) : Type 0 where
  pub stand : Stand
  pub hand : m.0.hand ≡ Some stand
  pub place : step.word ≡ 1
  pub left : step.first ≡ 0
  pub now : m' ≡ (did_next u node stand m.0, rest m.1)

-- the same while somebody waits in it
pub record Stays (u : Turn) (step : Step Stand) (m : Sitting) (word : ℕ) (m' : Sitting) : Type 0 where
  pub place : step.word ≡ 1
  pub left : step.first ≡ 0
  pub now : m' ≡ (did_stay u m.0, rest m.1)

-- a compare-and-swap on the count, from one more than the cells that were read to 0
pub record Leaves (u : Turn) (step : Step Stand) (m : Sitting) (word : ℕ) (m' : Sitting) : Type 0 where
  pub stand : Stand
  pub hand : m.0.hand ≡ Some stand
  pub place : step.word ≡ 0
  pub words : (step.first ≡ next_to stand.read) × (step.second ≡ 0)
  pub now : m' ≡ (did_leave u (answer_to_leave word stand) stand m.0, m.1)

-- the line is put back unchanged
pub record PutsBack (step : Step Stand) (m : Sitting) (word : ℕ) (m' : Sitting) : Type 0 where
  pub place : step.word ≡ 1
  pub left : step.first ≡ 0
  pub now : m' ≡ (did_put_back m.0, rest m.1)
