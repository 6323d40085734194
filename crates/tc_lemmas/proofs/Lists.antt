-- What stands at a place of a list.
use Rattle.std.proofs.Common.{◌≡◌, ◌⊎◌, ℕ, zero, suc, ◌<◌, List, [], ◌∷◌, ◌++◌, length, map, sym, refl, ap, ⊎_elim, inl, inr, arith}
use Rattle.std.specs.Prelude.{get_or}
use mathlib.Core.Option.{some, some-injective, some-ne-none}
use lib.ListN.{get_elem?}

module _ {A : Type 0} where
  pub in_range : (l : List A) (i : ℕ) (a : A) → get_elem? l i ≡ some a → i < length l
  in_range [] i a e = absurd (some-ne-none a (sym e))
  in_range (x ∷ xs) zero a e = omega arith
  in_range (x ∷ xs) (suc i) a e = let r = in_range xs i a e in omega arith

  pub something_at : (l : List A) (i : ℕ) → i < length l → (a : A) × (get_elem? l i ≡ some a)
  something_at [] i h = absurd (omega arith)
  something_at (x ∷ xs) zero h = (x, refl)
  something_at (x ∷ xs) (suc i) h = something_at xs i (omega arith)

  pub at_itself : (l : List A) (i : ℕ) (d : A) → i < length l → get_elem? l i ≡ some (get_or l i d)
  at_itself [] i d h = absurd (omega arith)
  at_itself (x ∷ xs) zero d h = refl
  at_itself (x ∷ xs) (suc i) d h = at_itself xs i d (omega arith)

  -- what stands in a list with one more at its end was there, or is that one
  pub at_end : (l : List A) (a b : A) (i : ℕ) → get_elem? (l ++ a ∷ []) i ≡ some b → (get_elem? l i ≡ some b) ⊎ ((i ≡ length l) × (a ≡ b))
  at_end [] a b zero e = inr (refl, some-injective a b e)
  at_end [] a b (suc i) e = absurd (some-ne-none b (sym e))
  at_end (x ∷ xs) a b zero e = inl e
  at_end (x ∷ xs) a b (suc i) e = ⊎_elim inl (λ o. inr (ap suc o.0, o.1)) (at_end xs a b i e)

-- what stands in a list that a function was mapped over is what it gives of what stood there
pub from_map : {A B : Type 0} (f : A → B) (l : List A) (i : ℕ) (b : B) → get_elem? (map f l) i ≡ some b → (a : A) × (get_elem? l i ≡ some a) × (f a ≡ b)
from_map f [] i b e = absurd (some-ne-none b (sym e))
from_map f (x ∷ xs) zero b e = (x, refl, some-injective (f x) b e)
from_map f (x ∷ xs) (suc i) b e = from_map f xs i b e
