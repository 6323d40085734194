-- A stack of waiting turns, and who is served.
use Rattle.std.specs.Prelude.{◌≡◌, ◌⊎◌, ℕ, ◌-◌, ◌≤◌, ◌<◌, ◌==◌, if◌then◌else◌, List, [], ◌∷◌, All, drop, length, map, take, Option, Some, None}
use Rattle.tc_queue.specs.declared.turn.Turn.{Turn}
use Rattle.tc_queue.specs.Words.{IsTurn}
use Rattle.tc_youngest.specs.declared.stack.Stacked.{Stacked}

-- how often a turn may be passed over, how many threads are there, and the waiting turns, the oldest first
pub record StackView : Type 0 where
  pub bound : ℕ
  pub present : ℕ
  pub waiting : List Stacked

abbrev pub stack_view : ℕ → ℕ → List Stacked → StackView
stack_view bound present waiting = record { bound = bound; present = present; waiting = waiting }

abbrev pub newcomer : Turn → ℕ → Stacked
newcomer u bound = record { turn = u; left = bound }

abbrev pub passed_over : Stacked → Stacked
passed_over w = record w { left = w.left - 1 }

-- the last of these, or the given one
abbrev pub youngest : Stacked → List Stacked → Stacked
youngest o [] = o
youngest o (w ∷ ws) = youngest w ws

-- who is served, and who waits then: the oldest if it may not be passed over again, else the youngest before the others
abbrev pub served : List Stacked → Option Turn × List Stacked
served [] = (None, [])
served (o ∷ ws) = if o.left == 0 then (Some o.turn, ws) else (Some (youngest o ws).turn, map passed_over (take (length ws) (o ∷ ws)))

-- the oldest was served, or every waiter could still be passed over
abbrev pub WereSpared : List Stacked → List Stacked → Type 0
WereSpared before after = (after ≡ drop 1 before) ⊎ All (λ w. 0 < w.left) before

-- turns, each of which may be passed over at least as often as those before it, and none more often than the bound
abbrev pub AreSteady : ℕ → ℕ → List Stacked → Type 0
AreSteady least most [] = Unit {0}
AreSteady least most (w ∷ ws) = IsTurn 64 w.turn × (least ≤ w.left) × (w.left ≤ most) × AreSteady w.left most ws

pub record IsStack (bound capacity : ℕ) (waiting : List Stacked) : Type 0 where
  pub room : 64 ≤ capacity
  pub steady : AreSteady 0 bound waiting
