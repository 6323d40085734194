-- Lists of lock states by number.
use Rattle.std.proofs.Common.{◌≡◌, ℕ, zero, suc, ◌<◌, List, [], ◌∷◌, length, refl, sym, ap, arith, Option, Some, None}
use Rattle.tc_hall.proofs.Vocabulary.{LockView, add_all, get_elem?, kept, lock_in, remove_all, some, some-injective, some-ne-none, with_states}
use Rattle.tc_hall.specs.Steps.{or_kept, or_none}

clash : (a b : Option LockView) (l : LockView) → a ≡ b → a ≡ None → b ≡ Some l → ⊥
clash a b l e f g = cc (e, f, g)

pub add_all-length : (xs slots : List (Option LockView)) → length (add_all xs slots) ≡ length xs
add_all-length [] slots = refl
add_all-length (x ∷ xs) [] = refl
add_all-length (x ∷ xs) (o ∷ slots) = ap suc (add_all-length xs slots)

-- one of them is there as it came
pub add_all-has : (xs slots : List (Option LockView)) (i : ℕ) (l : LockView) → i < length xs → lock_in slots i ≡ Some l → get_elem? (add_all xs slots) i ≡ some (Some (kept l))
add_all-has [] slots i l h e = absurd (omega arith)
add_all-has (x ∷ xs) [] i l h e = absurd (clash None (Some l) l e refl refl)
add_all-has (x ∷ xs) (o ∷ slots) zero l h e = ap (λ v. some (or_kept x v)) e
add_all-has (x ∷ xs) (o ∷ slots) (suc i) l h e = add_all-has xs slots i l (omega arith) e

-- another place is as it was
pub add_all-else : (xs slots : List (Option LockView)) (i : ℕ) → lock_in slots i ≡ None → get_elem? (add_all xs slots) i ≡ get_elem? xs i
add_all-else [] slots i e = refl
add_all-else (x ∷ xs) [] i e = refl
add_all-else (x ∷ xs) (o ∷ slots) zero e = ap (λ v. some (or_kept x v)) e
add_all-else (x ∷ xs) (o ∷ slots) (suc i) e = add_all-else xs slots i e

pub remove_all-length : (xs slots : List (Option LockView)) → length (remove_all xs slots) ≡ length xs
remove_all-length [] slots = refl
remove_all-length (x ∷ xs) [] = refl
remove_all-length (x ∷ xs) (o ∷ slots) = ap suc (remove_all-length xs slots)

pub remove_all-else : (xs slots : List (Option LockView)) (i : ℕ) → lock_in slots i ≡ None → get_elem? (remove_all xs slots) i ≡ get_elem? xs i
remove_all-else [] slots i e = refl
remove_all-else (x ∷ xs) [] i e = refl
remove_all-else (x ∷ xs) (o ∷ slots) zero e = ap (λ v. some (or_none x v)) e
remove_all-else (x ∷ xs) (o ∷ slots) (suc i) e = remove_all-else xs slots i e

-- what is left at a place was there, and is none of them
pub remove_all-at : (xs slots : List (Option LockView)) (i : ℕ) (a : LockView) → get_elem? (remove_all xs slots) i ≡ some (Some a) → (lock_in slots i ≡ None) × (get_elem? xs i ≡ some (Some a))
remove_all-at [] slots i a e = absurd (some-ne-none (Some a) (sym e))
remove_all-at (x ∷ xs) [] i a e = (refl, e)
remove_all-at (x ∷ xs) (None ∷ slots) zero a e = (refl, e)
remove_all-at (x ∷ xs) (Some l ∷ slots) zero a e = absurd (clash None (Some a) a (some-injective None (Some a) e) refl refl)
remove_all-at (x ∷ xs) (o ∷ slots) (suc i) a e = remove_all-at xs slots i a e

pub with_states-has : (slots : List (Option LockView)) (xs : List LockView) (i : ℕ) (l : LockView) → i < length xs → lock_in slots i ≡ Some l → get_elem? (with_states slots xs) i ≡ some (kept l)
with_states-has [] xs i l h e = absurd (clash None (Some l) l e refl refl)
with_states-has (o ∷ slots) [] i l h e = absurd (omega arith)
with_states-has (None ∷ slots) (x ∷ xs) zero l h e = absurd (clash None (Some l) l e refl refl)
with_states-has (Some k ∷ slots) (x ∷ xs) zero l h e = ap (λ (z : LockView). some (kept z)) (let same : k ≡ l = cc e in same)
with_states-has (o ∷ slots) (x ∷ xs) (suc i) l h e = with_states-has slots xs i l (omega arith) e

pub with_states-else : (slots : List (Option LockView)) (xs : List LockView) (i : ℕ) → lock_in slots i ≡ None → get_elem? (with_states slots xs) i ≡ get_elem? xs i
with_states-else [] xs i e = refl
with_states-else (o ∷ slots) [] i e = refl
with_states-else (None ∷ slots) (x ∷ xs) zero e = refl
with_states-else (Some k ∷ slots) (x ∷ xs) zero e = absurd (clash None (Some k) k (sym e) refl refl)
with_states-else (o ∷ slots) (x ∷ xs) (suc i) e = with_states-else slots xs i e
