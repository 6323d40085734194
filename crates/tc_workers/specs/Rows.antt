-- Rows of seats: one for each worker, and in it one seat of each queue.
use Rattle.std.specs.Prelude.{◌≡◌, ℕ, List, [], ◌∷◌, ◌++◌, length}
use mathlib.Core.Option.{some}
use lib.ListN.{get_elem?}
use Rattle.tc_order.specs.declared.in_hall.InHall.{InHall}

-- each row has one seat more: the seat of its number
pub record AreDealtOut {X S : Type 0} (items : X → List S) (rows : List X) (seats : List S) (more : List X) : Type 0 where
  pub count : length more ≡ length rows
  pub each : (w : ℕ) (row new : X) (s : S) → get_elem? rows w ≡ some row → get_elem? seats w ≡ some s → get_elem? more w ≡ some new → items new ≡ items row ++ s ∷ []

-- the line of each lock stands at its number, for so many threads
abbrev pub AreInPlace : ℕ → List InHall → Type 0
AreInPlace n lines = (i : ℕ) (l : InHall) → get_elem? lines i ≡ some l → (l.lock ≡ i) × (l.seats.threads ≡ n)
