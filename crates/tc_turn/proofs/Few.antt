-- How many locks a thread holds.
use Rattle.std.proofs.Common.{◌≡◌, ℕ, zero, suc, ◌+◌, ◌<◌, ◌≤◌, Bool, true, false, cond, not, ◌||◌, ◌&&◌, ◌==◌, List, [], ◌∷◌, length, filter, sym, ap, subst, ◌∙◌, inl, inr, arith, Some, None}
use Rattle.tc_turn.proofs.Vocabulary.{eqb_tells, leb_tells, Shown, Registers, get, MAX_HELD, holds_most, lock_fault, act_of, Thread, next_lock, plus_lock, range_with_len, has, locks_of, Called, Lock}
use Rattle.tc_isa.specs.declared.fault.Fault.TheVariants as fault
use Rattle.tc_exec.specs.Told.{IsNoLock, taken_by}
use Rattle.tc_exec.proofs.NoLock.{never, taken_some}
use Rattle.tc_turn.proofs.Turns.{next_some}
use Rattle.tc_lemmas.proofs.Tests.{eq_self}

-- how many pass a test
counted : (m : ℕ) (v w : Bool) (x : ℕ) (xs ys : List ℕ) → (v ≡ true → w ≡ true) → length xs ≤ length ys + m → length (cond v (x ∷ xs) xs) ≤ length (cond w (x ∷ ys) ys) + m
counted m v w x xs ys into few = grind arith

-- what passes the one passes the other
pub fewer : (p q : ℕ → Bool) → ((k : ℕ) → p k ≡ true → q k ≡ true) → (xs : List ℕ) → length (filter p xs) ≤ length (filter q xs)
fewer p q into [] = omega arith
fewer p q into (x ∷ xs) = (let few = fewer p q into xs in let both = counted 0 (p x) (q x) x (filter p xs) (filter q xs) (into x) (omega arith) in omega arith)

one_longer : (v w : Bool) (x : ℕ) (xs ys : List ℕ) → length xs ≤ length ys → length (cond v (x ∷ xs) xs) ≤ length (cond w (x ∷ ys) ys) + 1
one_longer v w x xs ys few = grind arith

one_shorter : (v w : Bool) (x : ℕ) (xs ys : List ℕ) → v ≡ false → w ≡ true → length xs ≤ length ys → length (cond v (x ∷ xs) xs) + 1 ≤ length (cond w (x ∷ ys) ys)
one_shorter v w x xs ys out in_it few = grind arith

still_shorter : (v w : Bool) (x : ℕ) (xs ys : List ℕ) → (v ≡ true → w ≡ true) → length xs + 1 ≤ length ys → length (cond v (x ∷ xs) xs) + 1 ≤ length (cond w (x ∷ ys) ys)
still_shorter v w x xs ys into few = grind arith

-- with one more at most
past_one : (p : ℕ → Bool) (i a n : ℕ) → i < a → length (filter (plus_lock p i) (range_with_len a n)) ≤ length (filter p (range_with_len a n))
past_one p i a zero low = omega arith
past_one p i a (suc n) low =
    let few = past_one p i (a + 1) n (omega arith) in
    let both = counted 0 (plus_lock p i a) (p a) a (filter (plus_lock p i) (range_with_len (a + 1) n)) (filter p (range_with_len (a + 1) n)) (elim (eqb_tells a i) [
      | inl e ↦ λ h. absurd (let same = e.1 in omega arith)
      | inr e ↦ λ h. sym (ap (λ b. b || p a) e.0) ∙ h
    ]) (omega arith) in
    omega arith

pub one_more : (p : ℕ → Bool) (i a n : ℕ) → length (filter (plus_lock p i) (range_with_len a n)) ≤ length (filter p (range_with_len a n)) + 1
one_more p i a zero = omega arith
one_more p i a (suc n) = elim (eqb_tells a i) [
  | inl e ↦ one_longer (plus_lock p i a) (p a) a _ _ (past_one p i (a + 1) n (let same = e.1 in omega arith))
  | inr e ↦ counted 1 (plus_lock p i a) (p a) a _ _ (λ h. sym (ap (λ b. b || p a) e.0) ∙ h) (one_more p i (a + 1) n)
]

-- with one less
one_less : (p q : ℕ → Bool) (i a n : ℕ) → ((k : ℕ) → p k ≡ true → q k ≡ true) → p i ≡ false → q i ≡ true → a ≤ i → i < a + n → length (filter p (range_with_len a n)) + 1 ≤ length (filter q (range_with_len a n))
one_less p q i a zero into out in_it low high = absurd (omega arith)
one_less p q i a (suc n) into out in_it low high = elim (eqb_tells a i) [
  | inl e ↦ one_shorter (p a) (q a) a _ _ (ap p e.1 ∙ out) (ap q e.1 ∙ in_it) (fewer p q into (range_with_len (a + 1) n))
  | inr e ↦ still_shorter (p a) (q a) a _ _ (into a) (one_less p q i (a + 1) n into out in_it (let other = e.1 in omega arith) (omega arith))
]

-- a set without one of its locks has one lock less
pub less_few : (held rest i : ℕ) → ((k : ℕ) → has rest k ≡ (not (k == i) && has held k)) → has held i ≡ true → i < 32 → length (locks_of rest) + 1 ≤ length (locks_of held)
unfolding locks_of
less_few held rest i each mine small = one_less (has rest) (has held) i 0 32 (λ k h. right _ _ (sym (each k) ∙ h)) (each i ∙ ap (λ b. not b && has held i) (eq_self i)) mine (omega arith) (omega arith)
  where
    right : (a b : Bool) → (a && b) ≡ true → b ≡ true
    right true b e = e
    right false b e = absurd (cc)

most_fault : (image : Shown) (held : ℕ → Bool) (lock : ℕ) → holds_most held ≡ true → lock_fault image held lock ≡ Some fault.BadLock
most_fault image held lock most = grind arith

-- a thread that holds as many locks as it may takes none
takes_none : (image : Shown) (held : ℕ → Bool) (r : Registers) (answer lock : ℕ) (next : Registers) → holds_most held ≡ true → act_of image held r answer ≡ Called (Lock lock) next → ⊥
takes_none image held r answer lock next most e = subst IsNoLock e (never image r (λ calls.
    (let none : None ≡ Some lock = sym (taken_some image held r (Some fault.BadLock) calls (most_fault image held (get r 10) most) answer) ∙ ap taken_by e in cc)) held answer)

-- a thread that takes a lock holds less than it may
pub takes_below : (image : Shown) (d : Thread) (lock : ℕ) → next_lock image d ≡ Some lock → length (filter d.held (range_with_len 0 32)) < MAX_HELD
unfolding holds_most
takes_below image d lock e = elim (leb_tells MAX_HELD (length (filter d.held (range_with_len 0 32)))) [
  | inl most ↦ absurd (let was = next_some image d lock e in takes_none image d.held d.regs 0 lock was.0 most.0 was.1)
  | inr less ↦ (let n = less.1 in omega arith)
]
