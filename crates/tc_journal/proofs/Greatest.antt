-- The greatest lock of a set.
use Rattle.std.proofs.Common.{◌≡◌, ◌≢◌, ℕ, zero, suc, ◌<◌, ◌≤◌, Bool, true, false, IsTrue, refl, sym, ap, ◌∙◌, arith, rules}
use Rattle.std.specs.Prelude.{Option, Some, None, MatchOption, IfSome, if◌then◌else◌}
use Rattle.tc_isa.specs.Sets.{has}
use Rattle.tc_journal.specs.Batch.{top_below}

pub top_same : (n : ℕ) (a b : ℕ → Bool) → ((k : ℕ) → a k ≡ b k) → top_below n a ≡ top_below n b
top_same zero a b same = refl
top_same (suc n) a b same = (λ i. if same n i then Some n else top_same n a b same i)

pub top_is : (n lock : ℕ) (held : ℕ → Bool) → lock < n → held lock ≡ true → ((j : ℕ) → held j ≡ true → j ≤ lock) → top_below n held ≡ Some lock
top_is zero lock held lt is above = absurd (omega arith)
top_is (suc n) lock held lt is above =
    (elim (held n) as (λ v. held n ≡ v → (if v then Some n else top_below n held) ≡ Some lock) [
      | true ↦ λ e. (let le = above n e in let same : n ≡ lock = omega arith in ap Some same)
      | false ↦ λ e. (let ne : n ≢ lock = (λ same. absurd (let f : true ≡ false = sym is ∙ ap held (sym same) ∙ e in cc)) in top_is n lock held (omega arith) is above)
    ]) refl

-- the greatest lock of a set of held locks
pub top_greatest : (held : ℕ) (o : Option ℕ) → MatchOption o (held ≡ 0) (λ lock. IsTrue (has held lock) × ((other : ℕ) → IsTrue (has held other) → other ≤ lock)) → IfSome o (λ lock. lock < 32) → top_below 32 (has held) ≡ o
top_greatest held None empty small = ap (λ h. top_below 32 (has h)) empty
top_greatest held (Some lock) is small = top_is 32 lock (has held) small (search rules) (λ j h. is.1 j (search rules))
