-- Unfinished blocks beside a machine in which the finished ones stand whole.
use Rattle.std.specs.Prelude.{◌≡◌, ℕ, ◌+◌, ◌<◌, Bool, true, Option, Some, None}
use Rattle.tc_elf.specs.Shown.{Shown}
use Rattle.tc_journal.specs.declared.block.End.{End}
use Rattle.tc_turn.specs.Reads.{Covers}
use Rattle.tc_mutex_spec.specs.Machine.{State, can_turn}
use Rattle.tc_mutex_spec.specs.Locality.{Agree}
use Rattle.tc_mutex_spec.specs.Blocks.{reach, end_at}
use Rattle.tc_core.specs.Core.{is_number}

-- the locks that are with t
abbrev pub is_with : (ℕ → Option ℕ) → ℕ → ℕ → Bool
is_with owned t k = is_number (owned k) t

-- m is base with the unfinished block of each thread: so many turns of it, in t and the locks that are with t alone
pub record Gathers (image : Shown) (m base : State) (owned : ℕ → Option ℕ) (done : ℕ → ℕ) : Type 0 where
  pub part : (t : ℕ) → Agree t (is_with owned t) (reach image base t (done t)) m
  pub rest : (k : ℕ) → owned k ≡ None → m.locks k ≡ base.locks k
  pub held : (t k : ℕ) → (m.threads t).held k ≡ true → owned k ≡ Some t
  pub covers : (t k : ℕ) → k < done t → Covers image (is_with owned t) ((reach image base t k).threads t)
  pub defined : (t k : ℕ) → k < done t → can_turn image (reach image base t k) t ≡ true
  pub before : (t k : ℕ) → k + 1 < done t → end_at image base t k ≡ None

-- and these are the ends of those that have ended
pub record HasEnds (image : Shown) (base : State) (done : ℕ → ℕ) (ended : ℕ → Option End) : Type 0 where
  pub ends : (t k : ℕ) → k + 1 ≡ done t → end_at image base t k ≡ ended t
  pub none : (t : ℕ) → done t ≡ 0 → ended t ≡ None
