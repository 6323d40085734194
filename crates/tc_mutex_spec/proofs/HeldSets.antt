-- Sets of locks as numbers: what is in the set of a test.
use Rattle.std.proofs.Common.{◌≡◌, ◌≢◌, ℕ, zero, suc, ◌+◌, ◌*◌, ◌^◌, ◌<◌, Bool, true, false, not, ◌&&◌, ◌||◌, ◌==◌, bit_and, bit_or, refl, sym, ap, ◌∙◌, arith, inl, inr}
use Rattle.std.specs.Prelude.{nat_lt, if◌then◌else◌}
use Rattle.std.specs.Int.{bit_at}
use Rattle.std.specs.Int.Bits.{bit_xor, xor_add_and, and_self, or_shifted_r}
use Rattle.std.proofs.lemmas.Bool.Decides.{eqb_tells, nat_tests}
use Rattle.std.proofs.Math.Nat.{pow-suc}
use Rattle.std.proofs.lemmas.Nat.{and_assoc}
use Rattle.std.proofs.lemmas.Nat.Bits.{and_pow, bit_at-zero, bit_at_and, bit_at_or, bit_at_xor, bit_at-lt, bit_at-pow_same, bit_at-pow_other}
use Rattle.tc_journal.proofs.Locks.{has_none}
use Rattle.tc_isa.specs.Sets.{has, with_lock, without_lock}

pub with_has : (n lock k : ℕ) → has (with_lock n lock) k ≡ ((k == lock) || has n k)
with_has n lock k = elim (eqb_tells k lock) [
  | inl e ↦ rw (e.0, e.1) (ap (λ b. b == 1) (let one : bit_at (bit_or n (2 ^ lock)) lock ≡ 1 = omega (arith, bit_at_or n (2 ^ lock) lock, bit_at-pow_same lock, bit_at-lt n lock) in one))
  | inr e ↦ rw (e.0) (ap (λ b. b == 1) (let same : bit_at (bit_or n (2 ^ lock)) k ≡ bit_at n k = omega (arith, bit_at_or n (2 ^ lock) k, bit_at-pow_other lock k e.1) in same))
]

-- a bit that is taken away
less_is : (n lock : ℕ) → without_lock n lock ≡ bit_xor n (bit_and n (2 ^ lock))
less_is n lock =
    let twice : bit_and n (bit_and n (2 ^ lock)) ≡ bit_and n (2 ^ lock) = sym (and_assoc (2 ^ lock) n n) ∙ ap (λ x. bit_and x (2 ^ lock)) (and_self n) in
    omega (arith, xor_add_and n (bit_and n (2 ^ lock)), twice, and_pow n lock)

pub without_has : (n lock k : ℕ) → has (without_lock n lock) k ≡ (not (k == lock) && has n k)
without_has n lock k =
    let bits = bit_at_xor n (bit_and n (2 ^ lock)) k in
    let inner = bit_at_and n (2 ^ lock) k in
    ap (λ x. has x k) (less_is n lock) ∙ (elim (eqb_tells k lock) [
      | inl e ↦ (let zero : bit_at (bit_xor n (bit_and n (2 ^ lock))) k ≡ 0 = (let p : bit_at (2 ^ lock) k ≡ 1 = ap (bit_at (2 ^ lock)) e.1 ∙ bit_at-pow_same lock in omega (arith, bits, inner, p, bit_at-lt n k)) in
          rw (e.0) (ap (λ b. b == 1) zero))
      | inr e ↦ (let same : bit_at (bit_xor n (bit_and n (2 ^ lock))) k ≡ bit_at n k = omega (arith, bits, inner, bit_at-pow_other lock k e.1, bit_at-lt n k) in
          rw (e.0) (ap (λ b. b == 1) same))
    ])

-- the set of the numbers below n that meet the test
abbrev pub set_below : ℕ → (ℕ → Bool) → ℕ
set_below zero test = 0
set_below (suc n) test = if test n then with_lock (set_below n test) n else set_below n test

below_more : (k n : ℕ) (b : Bool) → k ≢ n → (nat_lt k n && b) ≡ (nat_lt k (suc n) && b)
below_more k n b ne = ap (λ x. x && b) (let same : nat_lt k n ≡ nat_lt k (suc n) = grind (arith, nat_tests) in same)

at_last : (n : ℕ) → nat_lt n (suc n) ≡ true
at_last n = grind (arith, nat_tests)

past_last : (n : ℕ) → nat_lt n n ≡ false
past_last n = grind (arith, nat_tests)

pub set_has : (n : ℕ) (test : ℕ → Bool) (k : ℕ) → has (set_below n test) k ≡ (nat_lt k n && test k)
set_has zero test k = has_none k ∙ ap (λ b. b && test k) (let none : false ≡ nat_lt k 0 = grind (arith, nat_tests) in none)
set_has (suc n) test k = go (test n) refl (set_has n test k)
  where
    go : (v : Bool) → test n ≡ v → has (set_below n test) k ≡ (nat_lt k n && test k) → has (if v then with_lock (set_below n test) n else set_below n test) k ≡ (nat_lt k (suc n) && test k)
    go true e less = elim (eqb_tells k n) [
      | inl x ↦ with_has (set_below n test) n k ∙ ap (λ b. b || has (set_below n test) k) x.0 ∙ sym (ap (λ j. nat_lt j (suc n) && test j) x.1 ∙ (λ i. at_last n i && e i))
      | inr x ↦ with_has (set_below n test) n k ∙ ap (λ b. b || has (set_below n test) k) x.0 ∙ less ∙ below_more k n (test k) x.1
    ]
    go false e less = elim (eqb_tells k n) [
      | inl x ↦ less ∙ ap (λ j. nat_lt j n && test j) x.1 ∙ ap (λ b. b && test n) (past_last n) ∙ sym (ap (λ j. nat_lt j (suc n) && test j) x.1 ∙ (λ i. at_last n i && e i))
      | inr x ↦ less ∙ below_more k n (test k) x.1
    ]

-- where none past them meets it, that is the set of all that do
pub set_is : (n : ℕ) (test : ℕ → Bool) → ((k : ℕ) → test k ≡ true → k < n) → (k : ℕ) → has (set_below n test) k ≡ test k
set_is n test below k = set_has n test k ∙ go (test k) refl
  where
    go : (v : Bool) → test k ≡ v → (nat_lt k n && test k) ≡ test k
    go true e = (let in_range : nat_lt k n ≡ true = (let lt = below k e in grind (arith, nat_tests)) in ap (λ b. b && test k) in_range)
    go false e = ap (λ b. nat_lt k n && b) e ∙ (elim (nat_lt k n) as (λ b. (b && false) ≡ false) [ true ↦ refl | false ↦ refl ]) ∙ sym e

pub set_small : (n : ℕ) (test : ℕ → Bool) → set_below n test < 2 ^ n
set_small zero test = omega arith
set_small (suc n) test = go (test n) (set_small n test)
  where
    go : (v : Bool) → set_below n test < 2 ^ n → (if v then with_lock (set_below n test) n else set_below n test) < 2 ^ suc n
    go true less =
        let joined : bit_or (set_below n test) (1 * 2 ^ n) ≡ 1 * 2 ^ n + set_below n test = or_shifted_r 1 n (set_below n test) less in
        let whole : bit_or (set_below n test) (2 ^ n) ≡ 2 ^ n + set_below n test = ap (λ b. bit_or (set_below n test) b) (let e : 2 ^ n ≡ 1 * 2 ^ n = omega arith in e) ∙ joined ∙ (omega arith) in
        omega (arith, whole, less, pow-suc 2 n)
    go false less = omega (arith, less, pow-suc 2 n)
