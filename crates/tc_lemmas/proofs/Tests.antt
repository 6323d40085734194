-- Answers of tests.
use Rattle.std.proofs.Common.{◌≡◌, ◌≢◌, ◌⊎◌, ℕ, ◌<◌, ◌==◌, Bool, true, false, refl, sym, ◌∙◌, inl, inr, arith}
use Rattle.std.proofs.lemmas.Bool.Decides.{eqb_tells}

pub true_or_false : (b : Bool) → (b ≡ true) ⊎ (b ≡ false)
true_or_false true = inl refl
true_or_false false = inr refl

pub eq_self : (k : ℕ) → (k == k) ≡ true
eq_self k = elim (eqb_tells k k) [ inl h ↦ h.0 | inr h ↦ absurd (h.1 refl) ]

-- bits that are 1 together are equal
pub same_bit : (x y : ℕ) → x < 2 → y < 2 → (x == 1) ≡ (y == 1) → x ≡ y
same_bit x y p q e = elim (eqb_tells x 1) [
  | inl h ↦ elim (eqb_tells y 1) [ inl g ↦ (let a = h.1 in let b = g.1 in omega arith) | inr g ↦ absurd (let f : true ≡ false = sym h.0 ∙ e ∙ g.0 in cc) ]
  | inr h ↦ elim (eqb_tells y 1) [ inl g ↦ absurd (let f : false ≡ true = sym h.0 ∙ e ∙ g.0 in cc) | inr g ↦ (let a : x ≢ 1 = h.1 in let b : y ≢ 1 = g.1 in omega arith) ]
]
