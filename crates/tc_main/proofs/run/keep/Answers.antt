use Rattle.std.proofs.Common.{◌≡◌, ◌∙◌, subst, get_or, below_more}
use Rattle.std.proofs.lemmas.List.{get_or_default}
use Rattle.tc_segment.specs.View.{IsSoundLock}
use Rattle.tc_main.proofs.run.keep.Goals as goal

pub loop-lock-preserved : goal.loop-lock-preserved
loop-lock-preserved c = λ k d lt.
    let locks = c.args.locks.now in
    let place = c.loop-lock.lock-index in
    let here : c.lock-item.result ≡ get_or locks place d = c.lock-item.is ∙ get_or_default locks place c.lock-item.result d c.loop-lock-test.true in
    below_more (λ j. IsSoundLock (get_or locks j d)) place (λ j low. c.loop-lock.invariant j d low) (subst IsSoundLock here c.keeps.ensures) k lt
