use Rattle.std.proofs.Common.{ℕ, List, get_or, take, sym, subst}
use Rattle.std.proofs.lemmas.List.{take_more}
use Rattle.tc_workers.specs.StepWith.{HasOffered}
use Rattle.tc_workers.proofs.Turning.{offers_more}
use Rattle.tc_workers.proofs.step_with.offer_all.Goals as goal

pub loop-t-preserved : goal.loop-t-preserved
loop-t-preserved c = subst (λ (l : List ℕ). HasOffered l c.args.ready.now c.offer.new.self) (sym (take_more c.args.threads.now c.loop-t.t-index 0 c.loop-t-test.true))
    (offers_more (take c.loop-t.t-index c.args.threads.now) (get_or c.args.threads.now c.loop-t.t-index 0) c.offer.result c.args.ready.now c.loop-t.ready c.offer.new.self c.loop-t.invariant c.offer.ensures)
