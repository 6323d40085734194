use Rattle.std.proofs.Common.{◌≡◌, replicate, Some}
use Rattle.tc_mutex_spec.specs.Machine.{turns}
use Rattle.tc_mutex_spec.specs.Slow.{state_of, Suits}
use Rattle.tc_mutex_spec.proofs.slow.Slow.turns.Given as goal

abbrev pub invariant-loop-done : goal.invariant-loop-done
invariant-loop-done l = record {
  ran : turns l.image (state_of l.fn.self) (replicate l.done l.t) ≡ Some (state_of l.self);
  suits : Suits l.image l.self;
}
