use Rattle.std.proofs.Common.{◌≤◌, length, vec_capacity}
use Rattle.tc_replay.proofs.Ending.{IsGiven}
use Rattle.tc_replay.proofs.checker.Checker.parts.Given as goal

abbrev pub invariant-loop-lock : goal.invariant-loop-lock
invariant-loop-lock l = record {
  given : IsGiven l.fn.self.image l.fn.self.home l.lock l.home l.states.items;
  room : length l.fn.self.image.guards ≤ vec_capacity l.states;
}
