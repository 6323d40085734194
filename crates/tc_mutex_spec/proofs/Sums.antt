-- The first numbers: sums over them, and what holds of one or of all.
use Rattle.std.proofs.Common.{◌≡◌, ◌≢◌, ◌⊎◌, ℕ, zero, suc, ◌+◌, ◌*◌, ◌<◌, ◌≤◌, sym, subst, arith, inl, inr}
use Rattle.std.proofs.lemmas.Bool.Decides.{eqb_tells}

abbrev pub sum_to : (ℕ → ℕ) → ℕ → ℕ
sum_to f zero = 0
sum_to f (suc n) = sum_to f n + f n

pub at_most : (n m : ℕ) → n ≡ m → n ≤ m
at_most n m e = omega arith

pub sums_le : (f g : ℕ → ℕ) (n : ℕ) → ((u : ℕ) → u < n → f u ≤ g u) → sum_to f n ≤ sum_to g n
sums_le f g zero le = omega arith
sums_le f g (suc n) le = (let r = sums_le f g n (λ u lt. le u (omega arith)) in let h = le n (omega arith) in omega arith)

-- all but one the same or less
pub sums_one : (f g : ℕ → ℕ) (a b t n : ℕ) → ((u : ℕ) → u ≢ t → f u ≤ g u) → f t + a ≤ g t + b → t < n → sum_to f n + a ≤ sum_to g n + b
sums_one f g a b t zero le here lt = absurd (omega arith)
sums_one f g a b t (suc n) le here lt = elim (eqb_tells t n) [
  | inl h ↦ (
      let r = sums_le f g n (λ u below. le u (omega (arith, h.1))) in
      let last : f n + a ≤ g n + b = subst (λ v. f v + a ≤ g v + b) h.1 here in
      omega arith)
  | inr h ↦ (let r = sums_one f g a b t n le here (let ne : t ≢ n = h.1 in omega arith) in let last = le n (λ e. h.1 (sym e)) in omega arith)
]

pub sums_more : (f g : ℕ → ℕ) (b t n : ℕ) → ((u : ℕ) → u ≢ t → f u ≤ g u) → f t ≤ g t + b → sum_to f n ≤ sum_to g n + b
sums_more f g b t zero le here = omega arith
sums_more f g b t (suc n) le here = elim (eqb_tells t n) [
  | inl h ↦ (
      let r = sums_le f g n (λ u below. le u (omega (arith, h.1))) in
      let last : f n ≤ g n + b = subst (λ v. f v ≤ g v + b) h.1 here in
      omega arith)
  | inr h ↦ (let r = sums_more f g b t n le here in let last = le n (λ e. h.1 (sym e)) in omega arith)
]

pub sums_most : (f : ℕ → ℕ) (b n : ℕ) → ((u : ℕ) → f u ≤ b) → sum_to f n ≤ n * b
sums_most f b zero le = omega arith
sums_most f b (suc n) le = (let r = sums_most f b n le in let h = le n in omega arith)

-- ---- one or all

pub below_last : (t n : ℕ) → t < suc n → (t < n) ⊎ (t ≡ n)
below_last t n lt = grind arith

all_more : {A : Type 0} (P : ℕ → Type 0) (n : ℕ) → A ⊎ ((t : ℕ) → t < n → P t) → A ⊎ P n → A ⊎ ((t : ℕ) → t < suc n → P t)
all_more P n (inl a) y = inl a
all_more P n (inr g) (inl a) = inl a
all_more P n (inr g) (inr p) = inr (λ t lt. elim (below_last t n lt) [ inl below ↦ g t below | inr e ↦ subst P (sym e) p ])

pub all_or : {A : Type 0} (P : ℕ → Type 0) (n : ℕ) → ((t : ℕ) → t < n → A ⊎ P t) → A ⊎ ((t : ℕ) → t < n → P t)
all_or P zero f = inr (λ t lt. absurd (omega arith))
all_or P (suc n) f = all_more P n (all_or P n (λ t lt. f t (omega arith))) (f n (omega arith))
