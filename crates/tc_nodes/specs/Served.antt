-- The steps of a queue, in their total order, as events of its line: who arrived, was picked, and entered.
use Rattle.std.specs.Prelude.{◌≡◌, ◌≢◌, ◌⊎◌, ℕ, ◌+◌, ◌^◌, ◌<◌, ◌≤◌, ◌==◌, ◌||◌, if◌then◌else◌, Bool, false, List, [], ◌∷◌, ◌++◌, map, length, All, Option, Some, None}
use Rattle.atomic_table.specs.Table.{State}
use Rattle.tc_queue.specs.declared.turn.Turn.{Turn}
use Rattle.tc_nodes.specs.declared.cells.Placed.{Placed}
use Rattle.tc_nodes.specs.declared.picks.Op.{Op}
use Rattle.tc_nodes.specs.declared.picks.Op.TheVariants.{Arrive, Pick}
use Rattle.tc_nodes.specs.declared.step.Entered.TheVariants.{Behind}
use Rattle.tc_nodes.specs.declared.step.LineStep.{LineStep}
use Rattle.tc_nodes.specs.declared.step.LineStep.TheVariants.{Enter, Link, Read, Next}
use Rattle.tc_nodes.specs.declared.board.Stand.{Stand}
use Rattle.tc_nodes.specs.declared.board.NodeTerms.{NodeTerms}
use Rattle.tc_nodes.specs.declared.board.Known.{Known}
use Rattle.tc_nodes.specs.Picks.{arriving, HaveComeOnce, picks}
use Rattle.tc_nodes.specs.Order.{Made, queue_after, IsOrdered}

-- what is found in a cell arrives, and a `next` picks
abbrev pub op_of : LineStep → List Op
op_of (Read number (Some p) took) = Arrive p.turn p.node ∷ []
op_of (Next u node a) = Pick node ∷ []
op_of c = []

abbrev pub ops_of : List Made → List Op
ops_of [] = []
ops_of (m ∷ before) = ops_of before ++ op_of m.call

-- the answers of `next`
abbrev pub answer_of : LineStep → List (Option Turn)
answer_of (Next u node a) = a ∷ []
answer_of c = []

abbrev pub answers_of : List Made → List (Option Turn)
answers_of [] = []
answers_of (m ∷ before) = answers_of before ++ answer_of m.call

-- the turns that were answered
abbrev pub served : List (Option Turn) → List Turn
served [] = []
served (None ∷ given) = served given
served (Some u ∷ given) = u ∷ served given

-- the turns that entered behind somebody
abbrev pub entry_of : LineStep → List Turn
entry_of (Enter u (Behind place)) = u ∷ []
entry_of c = []

abbrev pub entries_of : List Made → List Turn
entries_of [] = []
entries_of (m ∷ before) = entries_of before ++ entry_of m.call

-- the turns that were read from cells
abbrev pub read_of : List Made → List Turn
read_of order = map (λ (p : Placed). p.turn) (arriving (ops_of order))

-- ---- hypotheses of the lemmas

-- the line accepted whatever was read
abbrev pub RefusesNone : List Made → Type 0
RefusesNone order = All (λ (m : Made). (number : ℕ) (p : Placed) → m.call ≢ Read number (Some p) false) order

-- at no moment had more entered than there are cells behind the one that was read last
abbrev pub HasRoom : NodeTerms → List Made → Type 0
HasRoom k [] = Unit {0}
HasRoom k (m ∷ before) = ((queue_after k (m ∷ before)).entered ≤ (queue_after k (m ∷ before)).stand.read + 65) × HasRoom k before

-- each turn was linked on this node
abbrev pub AreOnNode : ℕ → List Made → Type 0
AreOnNode node order = All (λ (m : Made). (place other : ℕ) (u : Turn) → m.call ≡ Link place u other → other ≡ node) order

-- a prefix of the other list
abbrev pub IsFrontOf : List Turn → List Turn → Type 0
IsFrontOf xs ys = (rest : List Turn) × (xs ++ rest ≡ ys)

-- whether a turn of the thread waits: it entered behind somebody, and no `next` has answered a turn of the thread since
abbrev pub waits_on : ℕ → LineStep → Bool → Bool
waits_on t (Enter u (Behind place)) waited = (t == u.thread) || waited
waits_on t (Next u node (Some x)) waited = if t == x.thread then false else waited
waits_on t c waited = waited

abbrev pub is_waiting : ℕ → List Made → Bool
is_waiting t [] = false
is_waiting t (m ∷ before) = waits_on t m.call (is_waiting t before)

-- no turn enters behind somebody while a turn of its thread waits
abbrev pub OneATime : List Made → Type 0
OneATime [] = Unit {0}
OneATime (m ∷ before) = ((u : Turn) (place : ℕ) → m.call ≡ Enter u (Behind place) → is_waiting u.thread before ≡ false) × OneATime before

-- ---- the lemmas

-- if the line refused no turn and none came twice, the answers of `next` are those of the definition, over all events
abbrev pub KeepsPicks : Type 0
KeepsPicks = (k : NodeTerms) (s : State Stand Known) (r : IsOrdered k s) → RefusesNone r.order → HaveComeOnce (arriving (ops_of r.order)) → answers_of r.order ≡ picks k.bound (ops_of r.order)

-- if each thread had one turn at a time, the line refused no turn, and the cells sufficed
abbrev pub KeepsRoom : Type 0
KeepsRoom = (k : NodeTerms) (s : State Stand Known) (r : IsOrdered k s) → length r.order < 2 ^ 64 → OneATime r.order → HasRoom k r.order × RefusesNone r.order

-- if the cells sufficed, turns arrived in the order of entry
abbrev pub KeepsArrivals : Type 0
KeepsArrivals = (k : NodeTerms) (s : State Stand Known) (r : IsOrdered k s) → length r.order < 2 ^ 64 → HasRoom k r.order → IsFrontOf (read_of r.order) (entries_of r.order)

-- if also the line refused no turn, and the bound is 0 or all are on one node, turns were served in the order of entry
abbrev pub KeepsEntry : Type 0
KeepsEntry = (k : NodeTerms) (s : State Stand Known) (r : IsOrdered k s) → length r.order < 2 ^ 64 → HasRoom k r.order → RefusesNone r.order → (k.bound ≡ 0) ⊎ ((node : ℕ) × AreOnNode node r.order) → IsFrontOf (served (answers_of r.order)) (entries_of r.order)
