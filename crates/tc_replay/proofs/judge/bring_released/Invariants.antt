use Rattle.std.proofs.Common.{◌≡◌, ◌<◌, ◌≤◌, ℕ, true, None}
use Rattle.tc_isa.specs.Sets.{has}
use Rattle.tc_context.specs.View.{bare}
use Rattle.tc_context.specs.Whole.{set_of}
use Rattle.tc_replay.specs.Taken.{StaysWith}
use Rattle.tc_replay.proofs.judge.bring_released.Given as goal

abbrev pub invariant-loop-lock : goal.invariant-loop-lock
invariant-loop-lock l = record {
  at : StaysWith l.fn.home l.fn.«package» l.home l.«package»;
  granted : l.«package».granted ≡ None;
  guest : l.«package».context.guest ≡ l.fn.«package».context.guest;
  rest : bare l.«package» ≡ bare l.fn.«package»;
  to_come : (k : ℕ) → l.lock ≤ k → has l.block.held k ≡ set_of l.«package».context k;
  gone : (k : ℕ) → k < l.lock → set_of l.«package».context k ≡ true → has l.fn.«package».context.guest.held k ≡ true;
}
