-- The waiting queue (line) of a lock: threads in order of entry.
use Rattle.std.specs.Prelude.{◌≡◌, ℕ, Bool, true, false, ◌==◌, List, [], ◌∷◌, ◌++◌}
use Rattle.std.specs.List.{list_any}

abbrev pub is_in_line : List ℕ → ℕ → Bool
is_in_line line t = list_any (λ u. u == t) line

abbrev pub is_first : List ℕ → ℕ → Bool
is_first [] t = false
is_first (u ∷ us) t = u == t

-- the queue without its first
abbrev pub rest_of : List ℕ → List ℕ
rest_of [] = []
rest_of (u ∷ us) = us

abbrev pub is_second : List ℕ → ℕ → Bool
is_second line t = is_first (rest_of line) t

-- the queue has one member
abbrev pub is_single : List ℕ → Bool
is_single [] = false
is_single (u ∷ []) = true
is_single (u ∷ v ∷ us) = false

-- a prefix of a list
abbrev pub IsFrontOf : List ℕ → List ℕ → Type 0
IsFrontOf xs ys = (rest : List ℕ) × (xs ++ rest ≡ ys)
