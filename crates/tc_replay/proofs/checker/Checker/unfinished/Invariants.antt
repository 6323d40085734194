use Rattle.std.proofs.Common.{◌≡◌, ◌<◌, ℕ, false}
use Rattle.tc_context.specs.View.{PackageView, status_in}
use Rattle.tc_law.specs.Lawful.{StandsAt}
use Rattle.tc_turn.specs.Turn.{is_running}
use Rattle.tc_replay.proofs.checker.Checker.unfinished.Given as goal

abbrev pub invariant-loop-t : goal.invariant-loop-t
invariant-loop-t l = record {
  ended : (u : ℕ) (x : PackageView) → u < l.t → StandsAt l.self.packages u x → is_running (status_in x) ≡ false;
}
