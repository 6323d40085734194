-- A set of locks, put together from the list of its locks.
use Rattle.std.proofs.Common.{◌≡◌, ℕ, zero, suc, ◌+◌, ◌*◌, ◌/◌, ◌%◌, ◌^◌, ◌<◌, ◌≤◌, Bool, true, false, cond, List, [], ◌∷◌, filter, bit_or, refl, sym, ap, ◌∙◌, arith, add-zero}
use Rattle.std.specs.Int.Bits.{or_shifted_r}
use Rattle.std.specs.List.{range_with_len}
use Rattle.std.proofs.lemmas.Bool.Decides.{nat_tests}
use Rattle.std.proofs.lemmas.Nat.{mod-pow-add, pow_pos}
use Rattle.tc_isa.specs.Sets.{has, locks_of, with_lock}

-- the set with each of these locks
abbrev pub with_locks : ℕ → List ℕ → ℕ
with_locks held [] = held
with_locks held (lock ∷ locks) = with_locks (with_lock held lock) locks

-- the bits below a, and the next one
next_bit : (set a : ℕ) → has set a ≡ true → with_lock (set % 2 ^ a) a ≡ set % 2 ^ (a + 1)
next_bit set a h =
    let below : set % 2 ^ a < 2 ^ a = omega (arith, pow_pos a) in
    let sum : set % 2 ^ (1 + a) ≡ (set / 2 ^ a % 2 ^ 1) * 2 ^ a + set % 2 ^ a = mod-pow-add set 1 a in
    let one : set / 2 ^ a % 2 ^ 1 ≡ 1 = grind (arith, nat_tests) in
    let joined : bit_or (set % 2 ^ a) (1 * 2 ^ a) ≡ 1 * 2 ^ a + set % 2 ^ a = or_shifted_r 1 a (set % 2 ^ a) below in
    let single : 1 * 2 ^ a ≡ 2 ^ a = omega arith in
    let order : 1 + a ≡ a + 1 = omega arith in
    ap (λ b. bit_or (set % 2 ^ a) b) (sym single) ∙ joined ∙ ap (λ b. b * 2 ^ a + set % 2 ^ a) (sym one) ∙ sym sum ∙ ap (λ k. set % 2 ^ k) order

no_bit : (set a : ℕ) → has set a ≡ false → set % 2 ^ a ≡ set % 2 ^ (a + 1)
no_bit set a h =
    let sum : set % 2 ^ (1 + a) ≡ (set / 2 ^ a % 2 ^ 1) * 2 ^ a + set % 2 ^ a = mod-pow-add set 1 a in
    let none : set / 2 ^ a % 2 ^ 1 ≡ 0 = grind (arith, nat_tests) in
    let order : 1 + a ≡ a + 1 = omega arith in
    let nothing : 0 * 2 ^ a + set % 2 ^ a ≡ set % 2 ^ a = omega arith in
    sym (sum ∙ ap (λ b. b * 2 ^ a + set % 2 ^ a) none ∙ nothing) ∙ ap (λ k. set % 2 ^ k) order

gathered : (set a n : ℕ) → with_locks (set % 2 ^ a) (filter (has set) (range_with_len a n)) ≡ set % 2 ^ (a + n)
gathered set a zero = ap (λ k. set % 2 ^ k) (sym (add-zero a))
gathered set a (suc n) =
    let order : a + 1 + n ≡ a + suc n = omega arith in
    let rest : List ℕ = filter (has set) (range_with_len (a + 1) n) in
    elim (has set a) as (λ b. has set a ≡ b → with_locks (set % 2 ^ a) (cond b (a ∷ rest) rest) ≡ set % 2 ^ (a + suc n)) [
      | true ↦ λ e. ap (λ held. with_locks held rest) (next_bit set a e) ∙ gathered set (a + 1) n ∙ ap (λ k. set % 2 ^ k) order
      | false ↦ λ e. ap (λ held. with_locks held rest) (no_bit set a e) ∙ gathered set (a + 1) n ∙ ap (λ k. set % 2 ^ k) order
    ] refl

-- a set is that of its locks
pub with_locks-locks_of : (set : ℕ) → set < 2 ^ 32 → with_locks 0 (locks_of set) ≡ set
unfolding locks_of
with_locks-locks_of set small =
    let none : set % 2 ^ 0 ≡ 0 = omega arith in
    let whole : set % 2 ^ (0 + 32) ≡ set = omega arith in
    ap (λ held. with_locks held (filter (has set) (range_with_len 0 32))) (sym none) ∙ gathered set 0 32 ∙ whole

-- each of the numbers is that of a lock
abbrev pub AreLocks : List ℕ → Type 0
AreLocks [] = Unit {0}
AreLocks (n ∷ ns) = (n < 32) × AreLocks ns

AreLocks-range : (p : ℕ → Bool) (a n : ℕ) → a + n ≤ 32 → AreLocks (filter p (range_with_len a n))
AreLocks-range p a zero h = tt
AreLocks-range p a (suc n) h =
    let rest = AreLocks-range p (a + 1) n (omega arith) in
    elim (p a) as (λ b. AreLocks (cond b (a ∷ filter p (range_with_len (a + 1) n)) (filter p (range_with_len (a + 1) n)))) [
      | true ↦ (omega arith, rest)
      | false ↦ rest
    ]

pub AreLocks-locks_of : (set : ℕ) → AreLocks (locks_of set)
unfolding locks_of
AreLocks-locks_of set = AreLocks-range (has set) 0 32 (omega arith)
