use Rattle.std.proofs.Common.{◌≡◌, ℕ, ◌<◌, ◌≤◌, List}
use Rattle.std.specs.Prelude.{slice_get}
use Rattle.std.specs.Option.{option_map}
use Rattle.tc_isa.specs.Sets.{has}
use Rattle.tc_turn.specs.Turn.{Mutex, mutex_after}
use Rattle.tc_mutex_spec.proofs.locks.take_turns.Given as goal

-- the first n locks are changed, and the others are as they were
pub record AreDone (f : ℕ → Mutex → Mutex) (old now : List Mutex) (n : ℕ) : Type 0 where
  pub done : (k : ℕ) → k < n → slice_get now k ≡ option_map (f k) (slice_get old k)
  pub rest : (k : ℕ) → n ≤ k → slice_get now k ≡ slice_get old k

abbrev pub invariant-loop-number : goal.invariant-loop-number
invariant-loop-number l = AreDone (mutex_after l.image l.thread (has l.held) l.act) l.fn.locks l.locks l.number
