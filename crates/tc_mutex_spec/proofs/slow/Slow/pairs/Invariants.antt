use Rattle.std.proofs.Common.{◌≡◌, drop}
use Rattle.tc_mutex_spec.specs.Machine.{run_from}
use Rattle.tc_mutex_spec.specs.Slow.{state_of, Suits}
use Rattle.tc_mutex_spec.proofs.slow.Slow.pairs.Given as goal

abbrev pub invariant-loop-pair : goal.invariant-loop-pair
invariant-loop-pair l = record {
  ran : run_from l.image (state_of l.self) (drop l.pair-index l.schedule) ≡ run_from l.image (state_of l.fn.self) l.schedule;
  suits : Suits l.image l.self;
}
