-- The parts of a thread's own memory.
use Rattle.std.specs.Prelude.{◌≡◌, ℕ, ◌+◌, ◌<◌, ◌≤◌, Bool, true, AllPairs, List, [], ◌∷◌, ◌++◌, length, slice_index_or, Option, None, Some}
use Rattle.tc_elf.specs.Places.{lies_in}
use Rattle.tc_turn.specs.Memory.{Part}

abbrev pub no_part : Part
no_part = record { start = 0; bytes = [] }

abbrev pub part_at : List Part → ℕ → Part
part_at parts i = slice_index_or parts i no_part

abbrev pub part_has : ℕ → ℕ → Part → Bool
part_has start n p = lies_in start n p.start (length p.bytes)

-- there is a part of this number, which has all of these addresses
pub record HasAt (parts : List Part) (i start n : ℕ) : Type 0 where
  pub known : i < length parts
  pub there : part_has start n (part_at parts i) ≡ true

-- each part ends before all later ones begin
abbrev pub AreApart : List Part → Type 0
AreApart parts = AllPairs (λ p q. p.start + length p.bytes ≤ q.start) parts

-- parts with the bytes of one more piece, if it has some
abbrev pub with_piece : List Part → ℕ → Option (List ℕ) → List Part
with_piece parts start None = parts
with_piece parts start (Some bytes) = parts ++ record { start = start; bytes = bytes } ∷ []
