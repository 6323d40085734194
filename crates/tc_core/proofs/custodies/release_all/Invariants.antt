use Rattle.std.proofs.Common.{◌≡◌, ℕ, ◌<◌, ◌≤◌, List}
use Rattle.std.specs.Prelude.{slice_get}
use Rattle.std.specs.Option.{option_map}
use Rattle.tc_isa.specs.Sets.{has}
use Rattle.tc_core.specs.Core.{Custody}
use Rattle.tc_core.specs.Events.{custody_past}
use Rattle.tc_core.proofs.custodies.release_all.Given as goal

-- the first n locks are changed, and the others are as they were
pub record AreDone (f : ℕ → Custody → Custody) (old now : List Custody) (n : ℕ) : Type 0 where
  pub done : (k : ℕ) → k < n → slice_get now k ≡ option_map (f k) (slice_get old k)
  pub rest : (k : ℕ) → n ≤ k → slice_get now k ≡ slice_get old k

abbrev pub invariant-loop-lock : goal.invariant-loop-lock
invariant-loop-lock l = AreDone (λ k. custody_past l.worker l.thread (has l.held k) l.release) l.fn.custodies l.custodies l.lock
