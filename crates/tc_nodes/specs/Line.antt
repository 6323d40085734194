-- A line of waiting turns, and which of them is picked.
use Rattle.std.specs.Prelude.{◌≡◌, ℕ, ◌+◌, ◌≤◌, ◌==◌, Bool, true, false, ◌&&◌, ◌||◌, if◌then◌else◌, List, [], ◌∷◌, ◌++◌, length, Option, Some, None}
use Rattle.tc_queue.specs.declared.turn.Turn.{Turn}
use Rattle.tc_nodes.specs.declared.line.Waiter.{Waiter}

-- the waiting turns, the oldest first
pub record LineView : Type 0 where
  pub threads : ℕ
  pub bound : ℕ
  pub waiting : List Waiter

abbrev pub line_view : ℕ → ℕ → List Waiter → LineView
line_view threads bound waiting = record { threads = threads; bound = bound; waiting = waiting }

abbrev pub with_waiting : List Waiter → LineView → LineView
with_waiting ws l = record l { waiting = ws }

abbrev pub is_turn : Turn → Turn → Bool
is_turn u v = (u.thread == v.thread) && (u.number == v.number)

abbrev pub has_turn : Turn → List Waiter → Bool
has_turn u [] = false
has_turn u (w ∷ ws) = is_turn u w.turn || has_turn u ws

-- a line may be made for so many threads with this bound
pub record MayLineUp (threads bound : ℕ) : Type 0 where
  pub some : 1 ≤ threads
  pub few : threads ≤ 64
  pub bounded : bound ≤ 256

-- ---- arriving

abbrev pub newcomer : Turn → ℕ → Waiter
newcomer u node = record { turn = u; node = node; passes = 0 }

-- as many turns wait as there are threads, or this one does already
abbrev pub is_refused : Turn → LineView → Bool
is_refused u l = (length l.waiting == l.threads) || has_turn u l.waiting

abbrev pub IsRefused : Turn → LineView → Type 0
IsRefused u l = is_refused u l ≡ true

abbrev pub IsLetIn : Turn → LineView → Type 0
IsLetIn u l = is_refused u l ≡ false

abbrev pub arrived : Turn → ℕ → LineView → LineView
arrived u node l = if is_refused u l then l else with_waiting (l.waiting ++ newcomer u node ∷ []) l

-- ---- picking

-- the first of a node
abbrev pub first_of : ℕ → List Waiter → Option Turn
first_of node [] = None
first_of node (w ∷ ws) = if w.node == node then Some w.turn else first_of node ws

abbrev pub or_else : Option Turn → Turn → Option Turn
or_else None u = Some u
or_else (Some x) u = Some x

-- the oldest if it was passed over as often as the bound allows, else the first of this node, else the oldest
abbrev pub picked : ℕ → ℕ → List Waiter → Option Turn
picked bound node [] = None
picked bound node (o ∷ ws) = if o.passes == bound then Some o.turn else or_else (first_of node (o ∷ ws)) o.turn

abbrev pub passed_over : Waiter → Waiter
passed_over w = record w { passes = w.passes + 1 }

-- the line without a turn: each turn before it was passed over once more
abbrev pub line_without : Turn → List Waiter → List Waiter
line_without u [] = []
line_without u (w ∷ ws) = if is_turn u w.turn then ws else passed_over w ∷ line_without u ws

abbrev pub line_after : Option Turn → List Waiter → List Waiter
line_after None ws = ws
line_after (Some u) ws = line_without u ws

-- ---- the invariant of a line

-- the counters are at most this, and do not increase from an older waiter to a younger one
abbrev pub IsSteady : ℕ → List Waiter → Type 0
IsSteady most [] = Unit {0}
IsSteady most (w ∷ ws) = (w.passes ≤ most) × IsSteady w.passes ws

-- no turn waits twice
abbrev pub AreApart : List Waiter → Type 0
AreApart [] = Unit {0}
AreApart (w ∷ ws) = (has_turn w.turn ws ≡ false) × AreApart ws

pub record IsLine (threads bound capacity : ℕ) (waiting : List Waiter) : Type 0 where
  pub few : threads ≤ 64
  pub bounded : bound ≤ 256
  pub room : length waiting ≤ threads
  pub reserved : threads ≤ capacity
  pub steady : IsSteady bound waiting
