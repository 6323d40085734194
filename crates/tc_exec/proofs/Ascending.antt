-- A lock that is greater than each held one.
use Rattle.std.proofs.Common.{◌≡◌, ℕ, zero, suc, ◌+◌, ◌-◌, ◌<◌, ◌≤◌, Bool, true, false, not, ◌||◌, nat_lt, length, get_or, refl, ap, sym, ◌∙◌, arith, inl, inr}
use Rattle.std.proofs.lemmas.Bool.{false_from_ne_true, not-true}
use Rattle.std.proofs.lemmas.Bool.Decides.{leb_tells}
use Rattle.std.proofs.lemmas.List.Folds.{list_any_at}
use Rattle.std.proofs.lemmas.List.FromFn.{length-range_with_len, get_or-range_with_len}
use Rattle.std.specs.List.{list_any, range_with_len}
use Rattle.tc_exec.specs.Calls.{is_above_held}

none_from : (held : ℕ → Bool) (a n : ℕ) → ((k : ℕ) → a ≤ k → held k ≡ false) → list_any held (range_with_len a n) ≡ false
none_from held a zero none = refl
none_from held a (suc n) none = ap (λ b. b || list_any held (range_with_len (a + 1) n)) (none a (omega arith)) ∙ none_from held (a + 1) n (λ k h. none k (omega arith))

one_from : (held : ℕ → Bool) (a n k : ℕ) → a ≤ k → k < a + n → held k ≡ true → list_any held (range_with_len a n) ≡ true
one_from held a n k low high is =
    let here : get_or (range_with_len a n) (k - a) 0 ≡ k = get_or-range_with_len a n (k - a) 0 (omega arith) ∙ omega arith in
    let within : k - a < length (range_with_len a n) = rw length-range_with_len (omega arith) in
    list_any_at held (range_with_len a n) (k - a) 0 within (ap held here ∙ is)

-- the greatest held lock tells
pub is_above_greatest : (held : ℕ → Bool) (greatest lock : ℕ) → greatest < 32 → held greatest ≡ true → ((k : ℕ) → held k ≡ true → k ≤ greatest) → nat_lt greatest lock ≡ is_above_held held lock
unfolding is_above_held
is_above_greatest held greatest lock bound is top = elim (leb_tells (suc greatest) lock) [
  | inl e ↦
      e.0 ∙ sym (ap not (none_from held lock 32 (λ k from. false_from_ne_true (held k) (λ yes. (let le = top k yes in absurd (omega arith))))))
  | inr e ↦ e.0 ∙ sym (ap not (one_from held lock 32 greatest (omega arith) (omega arith) is))
]

-- every lock is greater than none
pub is_above_none : (held : ℕ → Bool) (lock : ℕ) → ((k : ℕ) → held k ≡ false) → true ≡ is_above_held held lock
unfolding is_above_held
is_above_none held lock none = sym (ap not (none_from held lock 32 (λ k from. none k)))

-- what a greater lock is greater than
pub above_all : (held : ℕ → Bool) (lock k : ℕ) → is_above_held held lock ≡ true → k < 32 → held k ≡ true → k < lock
unfolding is_above_held
above_all held lock k above bound is = elim (leb_tells (suc k) lock) [
  | inl e ↦ e.1
  | inr e ↦
      (let yes = one_from held lock 32 k (omega arith) (omega arith) is in
      let no = not-true (list_any held (range_with_len lock 32)) above in
      absurd (cc))
]

-- it isn't held itself
pub above_itself : (held : ℕ → Bool) (lock : ℕ) → is_above_held held lock ≡ true → held lock ≡ false
unfolding is_above_held
above_itself held lock above = false_from_ne_true (held lock) (λ is.
    (let yes = one_from held lock 32 lock (omega arith) (omega arith) is in
    let no = not-true (list_any held (range_with_len lock 32)) above in
    cc))
