-- Who is picked, over a whole list of arrivals and picks.
use Rattle.std.specs.Prelude.{◌≡◌, ℕ, ◌+◌, ◌≤◌, ◌==◌, Bool, true, false, not, ◌&&◌, ◌||◌, if◌then◌else◌, List, [], ◌∷◌, ◌++◌, length, Option, Some, None}
use mathlib.Core.Option.{some}
use lib.ListN.{get_elem?}
use Rattle.tc_queue.specs.declared.turn.Turn.{Turn}
use Rattle.tc_nodes.specs.declared.cells.Placed.{Placed}
use Rattle.tc_nodes.specs.declared.picks.Op.{Op}
use Rattle.tc_nodes.specs.declared.picks.Op.TheVariants.{Arrive, Pick}
use Rattle.tc_nodes.specs.Line.{is_turn, or_else}

-- ---- what has happened, the latest first

pub data Did : Type 0 where
  Arrived : Turn → ℕ → Did
  Answered : Option Turn → Did

-- all turns that arrived, each with its node, in order
abbrev pub arrivals : List Did → List Placed
arrivals [] = []
arrivals (Arrived u node ∷ before) = arrivals before ++ record { turn = u; node = node } ∷ []
arrivals (Answered a ∷ before) = arrivals before

abbrev pub has_come : Turn → List Placed → Bool
has_come u [] = false
has_come u (c ∷ cs) = is_turn u c.turn || has_come u cs

abbrev pub is_it : Turn → Option Turn → Bool
is_it u None = false
is_it u (Some x) = is_turn u x

-- some pick answered it
abbrev pub is_answered : Turn → List Did → Bool
is_answered u [] = false
is_answered u (Arrived v node ∷ before) = is_answered u before
is_answered u (Answered a ∷ before) = is_it u a || is_answered u before

-- a turn that arrived waits if no pick has answered it
abbrev pub waits : List Did → Placed → Bool
waits past c = not (is_answered c.turn past)

-- x arrived after u
abbrev pub is_after : Turn → Turn → List Placed → Bool
is_after u x [] = false
is_after u x (c ∷ cs) = if is_turn u c.turn then has_come x cs else is_after u x cs

abbrev pub bit : Bool → ℕ
bit true = 1
bit false = 0

-- x was answered, and had arrived after u
abbrev pub is_pass : Turn → Option Turn → List Placed → Bool
is_pass u None came = false
is_pass u (Some x) came = is_after u x came

-- how many picks answered a turn that had arrived after u
abbrev pub passes : List Did → Turn → ℕ
passes [] u = 0
passes (Arrived v node ∷ before) u = passes before u
passes (Answered a ∷ before) u = bit (is_pass u a (arrivals before)) + passes before u

-- ---- the answer of a pick

abbrev pub first_that : (Placed → Bool) → List Placed → Option Turn
first_that is [] = None
first_that is (c ∷ cs) = if is c then Some c.turn else first_that is cs

-- the first arrived that waits, and the first of a node that waits
abbrev pub oldest : List Did → Option Turn
oldest past = first_that (waits past) (arrivals past)

abbrev pub oldest_of : ℕ → List Did → Option Turn
oldest_of node past = first_that (λ c. waits past c && (c.node == node)) (arrivals past)

-- the oldest if it was passed over as often as the bound allows, else the oldest of this node, else the oldest
abbrev pub answer_by : ℕ → ℕ → List Did → Option Turn → Option Turn
answer_by most node past None = None
answer_by most node past (Some o) = if passes past o == most then Some o else or_else (oldest_of node past) o

abbrev pub answer : ℕ → ℕ → List Did → Option Turn
answer most node past = answer_by most node past (oldest past)

-- ---- the whole list

abbrev pub after_op : ℕ → List Did → Op → List Did
after_op most past (Arrive u node) = Arrived u node ∷ past
after_op most past (Pick node) = Answered (answer most node past) ∷ past

-- what has happened after these further operations
abbrev pub history : ℕ → List Did → List Op → List Did
history most past [] = past
history most past (op ∷ ops) = history most (after_op most past op) ops

-- the answers, in order
abbrev pub answers : List Did → List (Option Turn)
answers [] = []
answers (Arrived u node ∷ before) = answers before
answers (Answered a ∷ before) = answers before ++ a ∷ []

abbrev pub picks : ℕ → List Op → List (Option Turn)
picks most ops = answers (history most [] ops)

-- ---- what a list of operations must satisfy

abbrev pub arriving : List Op → List Placed
arriving [] = []
arriving (Arrive u node ∷ ops) = record { turn = u; node = node } ∷ arriving ops
arriving (Pick node ∷ ops) = arriving ops

abbrev pub HaveComeOnce : List Placed → Type 0
HaveComeOnce [] = Unit {0}
HaveComeOnce (c ∷ cs) = (has_come c.turn cs ≡ false) × HaveComeOnce cs

-- operations for a line with this bound: no turn arrives twice
pub record MayRun (bound : ℕ) (ops : List Op) : Type 0 where
  pub bounded : bound ≤ 256
  pub apart : HaveComeOnce (arriving ops)
  pub few : length (arriving ops) ≤ 64

-- ---- what follows

-- each turn is answered at most once
abbrev pub IsOnce : List (Option Turn) → Type 0
IsOnce given = (i j : ℕ) (u : Turn) → get_elem? given i ≡ some (Some u) → get_elem? given j ≡ some (Some u) → i ≡ j

-- no turn that waits was passed over more often than this
abbrev pub AreWithin : ℕ → List Did → Type 0
AreWithin most past = (i : ℕ) (c : Placed) → get_elem? (arrivals past) i ≡ some c → waits past c ≡ true → passes past c.turn ≤ most

-- this holds at each moment
abbrev pub IsBounded : ℕ → List Op → Type 0
IsBounded most ops = (before after : List Op) → ops ≡ before ++ after → AreWithin most (history most [] before)
