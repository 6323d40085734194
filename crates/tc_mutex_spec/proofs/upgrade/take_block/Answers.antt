use Rattle.std.proofs.Common.{arith}
use Rattle.tc_mutex_spec.specs.Slow.{state_of}
use Rattle.tc_mutex_spec.proofs.Folding.{no_thread-stuck}
use Rattle.tc_mutex_spec.proofs.upgrade.take_block.Goals as goal

pub returns-then-t-threads : goal.returns-then-t-threads
returns-then-t-threads c =
    let past = c.if-t-threads.true in
    record {
      pc = tt;
      ran = no_thread-stuck c.args.image.now (state_of c.args.slow.now) c.args.t c.args.count (omega (arith, past, c.threads.ensures.value)) c.requires.some;
      suits = c.requires.suits;
    }
