use Rattle.tc_replay.proofs.Starting.{locks_more}
use Rattle.tc_replay.proofs.checker.locks_at_start.Goals as goal

pub loop-lock-preserved : goal.loop-lock-preserved
loop-lock-preserved c = record {
  so_far = locks_more c.args.image.now c.args.terms.limit c.loop-lock.lock c.loop-lock.home c.put_in.new.self c.in_ok-state.state c.loop-lock.invariant.so_far c.in_ok-state.ensures c.put_in.ensures.locks;
}
