use Rattle.std.proofs.Common.{◌≡◌, ◌++◌, drop}
use Rattle.tc_journal.specs.History.{schedule_v1}
use Rattle.tc_mutex_spec.specs.Blocks.{with_pcs}
use Rattle.tc_mutex_spec.specs.Machine.{run_from, run, start}
use Rattle.tc_mutex_spec.specs.Slow.{state_of, Suits}
use Rattle.tc_mutex_spec.proofs.upgrade.upgrade.Given as goal

abbrev pub invariant-loop-block : goal.invariant-loop-block
invariant-loop-block l = record {
  ran : run_from l.image (state_of l.slow) (schedule_v1 (drop l.block-index l.old)) ≡ run l.image l.fuel (schedule_v1 l.old);
  pcs : l.blocks.items ++ with_pcs l.image (state_of l.slow) (drop l.block-index l.old) ≡ with_pcs l.image (start l.image l.fuel) l.old;
  suits : Suits l.image l.slow;
}
