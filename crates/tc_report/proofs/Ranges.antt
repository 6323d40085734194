-- Lists and texts by number.
use Rattle.std.proofs.Common.{◌≡◌, ℕ, suc, ◌+◌, List, [], ◌∷◌, ◌++◌, map, length, refl, add-zero, arith}
use Rattle.std.specs.List.{enumerate_from, flat_map, range_with_len}
use mathlib.Core.Option.{some}
use lib.ListN.{get_elem?}

-- a list each of whose items is known by its number
pub by_number : {A X : Type 0} (g : A → X) (f : ℕ → X) (first : ℕ) (xs : List A) → ((i j : ℕ) (a : A) → get_elem? xs i ≡ some a → first + i ≡ j → g a ≡ f j)
    → map g xs ≡ map f (range_with_len first (length xs))
by_number g f first [] at = refl
by_number g f first (x ∷ xs) at =
    let head : g x ≡ f first = at 0 first x refl (add-zero first) in
    let tail : map g xs ≡ map f (range_with_len (first + 1) (length xs)) = by_number g f (first + 1) xs (λ i j a e s. at (suc i) j a e (omega arith)) in
    λ k. head k ∷ tail k

-- a text that goes over numbered items, each of whose parts is known by its number
pub text_by_number : {A B : Type 0} (f : ℕ × A → List ℕ) (g : ℕ × B → List ℕ) (b : ℕ → B) (first : ℕ) (xs : List A) → ((i j : ℕ) (a : A) → get_elem? xs i ≡ some a → first + i ≡ j → f (j, a) ≡ g (j, b j))
    → flat_map f (enumerate_from first xs) ≡ flat_map g (enumerate_from first (map b (range_with_len first (length xs))))
text_by_number f g b first [] at = refl
text_by_number f g b first (x ∷ xs) at =
    let head : f (first, x) ≡ g (first, b first) = at 0 first x refl (add-zero first) in
    let tail : flat_map f (enumerate_from (first + 1) xs) ≡ flat_map g (enumerate_from (first + 1) (map b (range_with_len (first + 1) (length xs)))) =
    text_by_number f g b (first + 1) xs (λ i j a e s. at (suc i) j a e (omega arith)) in
    λ k. head k ++ tail k
