use Rattle.std.proofs.Common.{◌≡◌, ◌≤◌, ℕ, length, vec_capacity}
use Rattle.tc_context.specs.View.{IsFresh, PackageView}
use Rattle.tc_law.specs.Lawful.{StandsAt}
use Rattle.tc_replay.proofs.checker.packages_at_start.Given as goal

abbrev pub invariant-loop-t : goal.invariant-loop-t
invariant-loop-t l = record {
  count : length l.packages.items ≡ l.t;
  fresh : (t : ℕ) (p : PackageView) → StandsAt l.packages.items t p → IsFresh l.image t l.terms.fuel p;
  room : length l.image.entries ≤ vec_capacity l.packages;
}
