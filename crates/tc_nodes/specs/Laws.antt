-- What holds for all seats of a queue together.
use Rattle.std.specs.Prelude.{◌≡◌, ◌⊎◌, ℕ, true, List, [], ◌∷◌, Some}
use mathlib.Core.Option.{some}
use lib.ListN.{get_elem?}
use Rattle.atomic_table.specs.Table.{State}
use Rattle.tc_queue.specs.declared.turn.Turn.{Turn}
use Rattle.tc_nodes.specs.declared.cells.Placed.{Placed}
use Rattle.tc_nodes.specs.declared.step.LineStep.TheVariants.{Read, Next}
use Rattle.tc_nodes.specs.declared.board.Stand.{Stand}
use Rattle.tc_nodes.specs.declared.board.NodeTerms.{NodeTerms}
use Rattle.tc_nodes.specs.declared.board.Known.{Known}
use Rattle.tc_nodes.specs.Line.{has_turn, IsSteady}
use Rattle.tc_nodes.specs.Order.{IsOrdered}

-- the list of some seat shows that a `next` answered u
abbrev pub IsAnswered : List Known → Turn → Type 0
IsAnswered logs u = (id : ℕ) × (v : Known) × (i : ℕ) × (own : Turn) × (node : ℕ) × (get_elem? logs id ≡ some v) × (get_elem? v.calls i ≡ some (Next own node (Some u)))

-- the list of some seat shows that this was read from a cell and accepted by the line
abbrev pub WasTakenIn : List Known → Placed → Type 0
WasTakenIn logs p = (id : ℕ) × (v : Known) × (i : ℕ) × (number : ℕ) × (get_elem? logs id ≡ some v) × (get_elem? v.calls i ≡ some (Read number (Some p) true))

-- while the line is in its slot, each turn that was read and accepted is in it, or was answered by a `next`
abbrev pub KeepsTurns : Type 0
KeepsTurns = (k : NodeTerms) (s : State Stand Known) (h : Stand) → IsOrdered k s → s.homes ≡ some h ∷ [] → (p : Placed) → WasTakenIn s.views p → (has_turn p.turn h.line.waiting ≡ true) ⊎ IsAnswered s.views p.turn

-- while the line is in its slot, no waiter in it was passed over more often than the bound says
abbrev pub KeepsBound : Type 0
KeepsBound = (k : NodeTerms) (s : State Stand Known) (h : Stand) → IsOrdered k s → s.homes ≡ some h ∷ [] → IsSteady k.bound h.line.waiting
