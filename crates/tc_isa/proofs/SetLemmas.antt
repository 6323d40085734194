-- Sets of locks by their bits.
use Rattle.std.proofs.Common.{◌≡◌, ◌≢◌, ℕ, zero, suc, ◌+◌, ◌-◌, ◌*◌, ◌/◌, ◌%◌, ◌^◌, ◌<◌, ◌≤◌, Bool, true, false, cond, not, eqb, ◌||◌, ◌&&◌, List, [], ◌∷◌, ◌++◌, length, filter, bit_and, bit_or, IsTrue, refl, sym, ◌∙◌, ap, inl, inr, arith}
use Rattle.std.specs.Int.{bit_at, w32, bit_not, trailing_zeros, leading_zeros}
use Rattle.std.specs.Int.RustNames.{count_ones}
use Rattle.std.proofs.lemmas.Nat.{pow_pos, pow_below, ones_cat, and-not, and_le_l, one_shl, leading_top, and_comm, le-div, div_below}
use Rattle.std.proofs.lemmas.Nat.Bits.{bit_at_above, bit_at-suc, bit_at_set_same, bit_at_set_other, bit_at_clear_same, bit_at_clear_other, and_pow, bit_at-trailing_zeros}
use Rattle.std.proofs.lemmas.Bool.Decides.{eqb_tells, nat_tests}
use Rattle.std.proofs.lemmas.Bool.{cases_lt, cases_eq}
use Rattle.std.proofs.Math.Nat.{pow-suc}
use Rattle.std.proofs.Common.{add-one}
use Rattle.tc_isa.specs.Sets.{has, without_lock}
use Rattle.std.specs.List.{range_with_len}

pub has_above : (n i : ℕ) → n < 2 ^ 32 → 32 ≤ i → has n i ≡ false
has_above n i a b = rw (bit_at_above n 32 i a b) refl

pub has_set : (n k i : ℕ) → k < 32 → has (bit_or n (1 * 2 ^ k % 2 ^ 32)) i ≡ (eqb i k || has n i)
has_set n k i within = elim (eqb_tells i k) [
  | inl e ↦ rw (e.0, e.1) (ap (λ b. eqb b 1) (bit_at_set_same w32 n k within))
  | inr e ↦ rw (e.0) (ap (λ b. eqb b 1) (bit_at_set_other w32 n k within i e.1))
]

pub has_cleared : (n k i : ℕ) → n < 2 ^ 32 → k < 32 → has (bit_and n (bit_not w32 (1 * 2 ^ k % 2 ^ 32))) i ≡ (not (eqb i k) && has n i)
has_cleared n k i small within = elim (eqb_tells i k) [
  | inl e ↦ rw (e.0, e.1) (ap (λ b. eqb b 1) (bit_at_clear_same w32 n k within))
  | inr e ↦ rw (e.0) (elim (cases_lt i 32) [
    | inl below ↦ ap (λ b. eqb b 1) (bit_at_clear_other w32 n k within i below e.1)
    | inr above ↦ has_above _ i (omega (arith, and_le_l n (bit_not w32 (1 * 2 ^ k % 2 ^ 32)))) above ∙ sym (has_above n i small above)
  ])
]

-- to clear a bit is to take it away
pub cleared : (n k : ℕ) → n < 2 ^ 32 → k < 32 → bit_and n (bit_not w32 (1 * 2 ^ k % 2 ^ 32)) ≡ without_lock n k
cleared n k small within =
    let one : 1 * 2 ^ k % 2 ^ 32 ≡ 2 ^ k = one_shl k 32 within in
    let parts : bit_and (2 ^ 32 - 1 - 2 ^ k) n + bit_and (2 ^ k) n ≡ n = and-not 32 (2 ^ k) n (pow_below k 32 within) small in
    rw (one) (omega (arith, parts, and_comm n (2 ^ 32 - 1 - 2 ^ k), and_comm n (2 ^ k), and_pow n k))

counted : (b c : Bool) (x y : ℕ) (xs ys : List ℕ) → b ≡ c → length xs ≡ length ys → length (cond b (x ∷ xs) xs) ≡ length (cond c (y ∷ ys) ys)
counted true true x y xs ys e h = ap suc h
counted false false x y xs ys e h = h
counted true false x y xs ys e h = cc
counted false true x y xs ys e h = cc

halved : (n i : ℕ) → has n (i + 1) ≡ has (n / 2) i
halved n i = rw (add-one) (ap (λ b. eqb b 1) (bit_at-suc n i))

doubled : (n from k : ℕ) → length (filter (has n) (range_with_len (from + 1) k)) ≡ length (filter (has (n / 2)) (range_with_len from k))
doubled n from zero = refl
doubled n from (suc k) = counted _ _ _ _ _ _ (halved n from) (doubled n (from + 1) k)

bit : (b : ℕ) → b < 2 → count_ones b ≡ b
unfolding count_ones
bit b h = elim (cases_eq b 0) [
  | inl e ↦ rw (e) refl
  | inr e ↦ let one : b ≡ 1 = omega arith in rw (one) refl
]

first : (n : ℕ) (xs : List ℕ) → length (cond (has n 0) (0 ∷ xs) xs) ≡ n % 2 + length xs
first n xs = grind (arith, nat_tests)

pub count_is : (k n : ℕ) → n < 2 ^ k → count_ones n ≡ length (filter (has n) (range_with_len 0 k))
unfolding count_ones
count_is zero n small =
    let none : n ≡ 0 = omega arith in
    rw (none) refl
count_is (suc k) n small =
    let half : n / 2 < 2 ^ k = omega (arith, pow-suc 2 k) in
    let parts : n / 2 * 2 ^ 1 + n % 2 ≡ n = omega arith in
    let split : count_ones (n / 2 * 2 ^ 1 + n % 2) ≡ count_ones (n / 2) + count_ones (n % 2) = ones_cat 1 (n / 2) (n % 2) (omega arith) in
    let high : count_ones (n / 2) ≡ length (filter (has n) (range_with_len 1 k)) = count_is k (n / 2) half ∙ sym (doubled n 0 k) in
    let front : length (cond (has n 0) (0 ∷ filter (has n) (range_with_len 1 k)) (filter (has n) (range_with_len 1 k))) ≡ n % 2 + length (filter (has n) (range_with_len 1 k)) = first n _ in
    let whole : count_ones n ≡ count_ones (n / 2 * 2 ^ 1 + n % 2) = ap count_ones (sym parts) in
    omega (arith, whole, split, high, front, bit (n % 2) (omega arith))

-- a bit that is 0 is in no set
unset : (n i : ℕ) → bit_at n i ≡ 0 → IsTrue (has n i) → ⊥
unset n i e h = let no : IsTrue (eqb 0 1) = rw e at h in cc

pub least_is : (n : ℕ) → n ≢ 0 → n < 2 ^ 32 → IsTrue (has n (trailing_zeros w32 n)) × ((other : ℕ) → IsTrue (has n other) → trailing_zeros w32 n ≤ other)
least_is n some small =
    let low = bit_at-trailing_zeros w32 n (omega arith) small in (
      ap (λ b. eqb b 1) low.1,
      λ other h. elim (cases_lt other (trailing_zeros w32 n)) [
        | inl below ↦ absurd (unset n other (low.2 other below) h)
        | inr above ↦ above
      ],
    )

pub greatest_is : (n : ℕ) → n ≢ 0 → n < 2 ^ 32 → IsTrue (has n (31 - leading_zeros w32 n)) × ((other : ℕ) → IsTrue (has n other) → other ≤ 31 - leading_zeros w32 n)
greatest_is n some small =
    let top = leading_top 32 n (omega arith) small in
    let j : ℕ = top.0 in
    let place : 31 - leading_zeros w32 n ≡ j = omega (arith, top.1) in
    let one : 1 ≤ n / 2 ^ j = le-div 1 n (2 ^ j) (pow_pos j) (omega (arith, top.2)) in
    let less : n / 2 ^ j < 2 = div_below n (2 ^ j) 2 (pow_pos j) (omega (arith, top.3, pow-suc 2 j)) in
    let set : bit_at n j ≡ 1 = omega arith in (
      ap (λ k. has n k) place ∙ ap (λ b. eqb b 1) set,
      λ other h. elim (cases_lt j other) [
        | inl above ↦ absurd (unset n other (bit_at_above n (suc j) other top.3 above) h)
        | inr below ↦ omega arith
      ],
    )

-- numbers in a row, one more
pub range_more : (a n j : ℕ) → a + n ≡ j → range_with_len a (suc n) ≡ range_with_len a n ++ j ∷ []
range_more a zero j e = let same : a ≡ j = omega arith in ap (λ k. k ∷ []) same
range_more a (suc n) j e = ap (λ ks. a ∷ ks) (range_more (a + 1) n j (omega arith))
