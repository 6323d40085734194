-- States that agree on a thread and a set of locks, and states that differ only there.
use Rattle.std.specs.Prelude.{◌≡◌, ◌≢◌, ℕ, Bool, true, false}
use Rattle.tc_mutex_spec.specs.Machine.{State}

-- the two agree on the thread t and the locks of the set
pub record Agree (t : ℕ) (set : ℕ → Bool) (m n : State) : Type 0 where
  pub thread : m.threads t ≡ n.threads t
  pub locks : (k : ℕ) → set k ≡ true → m.locks k ≡ n.locks k

-- m and n differ only in the thread t and the locks of the set
pub record Apart (t : ℕ) (set : ℕ → Bool) (m n : State) : Type 0 where
  pub threads : (k : ℕ) → k ≢ t → n.threads k ≡ m.threads k
  pub locks : (k : ℕ) → set k ≡ false → n.locks k ≡ m.locks k
