use Rattle.std.proofs.Common.{[], ◌∷◌}
use Rattle.tc_combiner.proofs.Vocabulary.{IsTaken, Loose, Take}
use Rattle.tc_combiner.proofs.Acting.{waits_came, waits_more, waits_none, waits_stopped}
use Rattle.tc_combiner.proofs.Stances.{takes_same, same_past, same_self, same_then}
use Rattle.tc_combiner.proofs.waits.await_lock.Goals as goal

pub loop-init : goal.loop-init
loop-init g c = (tt, tt, waits_none c.args.pass.now, same_self c.args.hall.now.terms c.args.pass.now.knows)

pub loop-preserved : goal.loop-preserved
loop-preserved g c = (tt, tt, waits_more (λ l. Loose l ∷ []) (IsTaken c.args.hall.now c.args.lock) c.args.pass.now c.loop.pass c.try_take.new.pass c.loop.invariant.2 (c.in-Refused.ensures {u = tt}).tried, same_then c.args.hall.now.terms c.args.pass.now.knows c.loop.pass.knows c.try_take.new.pass.knows c.loop.invariant.3 (c.in-Refused.ensures {u = tt}).so)

pub returns-in-Came-clause-waited : goal.returns-in-Came-clause-waited
returns-in-Came-clause-waited g c = waits_came (λ l. Loose l ∷ []) (IsTaken c.args.hall.now c.args.lock) c.args.pass.now c.loop.pass c.try_take.new.pass c.loop.invariant.2 c.in-Came.state (c.in-Came.ensures {u = tt}).tried

pub returns-in-Stopped-clause-waited : goal.returns-in-Stopped-clause-waited
returns-in-Stopped-clause-waited g c = waits_stopped (λ l. Loose l ∷ []) (IsTaken c.args.hall.now c.args.lock) c.args.pass.now c.loop.pass c.try_take.new.pass c.loop.invariant.2 (c.in-Stopped.ensures {u = tt}).tried

pub try_take-requires-clause-stands : goal.try_take-requires-clause-stands
try_take-requires-clause-stands g c = takes_same c.args.hall.now.terms c.args.pass.now.knows c.loop.pass.knows c.loop.invariant.3 c.args.lock c.requires.stands

pub returns-in-Came-clause-so : goal.returns-in-Came-clause-so
returns-in-Came-clause-so g c = same_past c.args.hall.now.terms c.args.pass.now.knows c.loop.pass.knows c.try_take.new.pass.knows (Take c.args.lock) c.loop.invariant.3 (c.in-Came.ensures {u = tt}).so

pub returns-in-Stopped-clause-so : goal.returns-in-Stopped-clause-so
returns-in-Stopped-clause-so g c = let so = (c.in-Stopped.ensures {u = tt}).so in (so.0, same_then c.args.hall.now.terms c.args.pass.now.knows c.loop.pass.knows c.try_take.new.pass.knows c.loop.invariant.3 so.1)
