use Rattle.std.proofs.Common.{◌≡◌, ◌∙◌, sym, subst, arith}
use Rattle.tc_mutex_spec.specs.Blocks.{end_after}
use Rattle.tc_replay.specs.Rejected.{IsWrong}
use Rattle.tc_replay.specs.Taken.{Before}
use Rattle.tc_replay.specs.declared.reason.Reason.TheVariants as reason
use Rattle.tc_replay.proofs.Whole.{stands_read, so_on_err, over_wrong, next_of, roomier_taken, more_taken, no_thread_wrong}
use Rattle.tc_replay.proofs.checker.judge.Goals as goal

pub returns-then-t-len-clause-wrong : goal.returns-then-t-len-clause-wrong
returns-then-t-len-clause-wrong c r e h taken =
    let same : reason.Thread ≡ r = cc in
    subst (IsWrong c.args.image.now c.args.terms h (end_after c.args.image.now c.args.terms.fuel h) c.args.block.now) same
    (no_thread_wrong c.args.image.now c.args.terms h c.args.packages.now.items c.args.home.now taken c.args.block.now (omega (arith, c.if-t-len.true, c.len.ensures, c.args.packages.now.ok.0)))

pub returns-then-not-goes_on-clause-wrong : goal.returns-then-not-goes_on-clause-wrong
returns-then-not-goes_on-clause-wrong c r e h taken =
    let same : reason.Thread ≡ r = cc in
    let p = c.index_mut-package.result.now in
    let here = stands_read c.args.packages.now.items c.args.block.now.thread p (omega (arith, c.if-t-len.false, c.len.ensures, c.args.packages.now.ok.0)) c.index_mut-package.ensures.value in
    subst (IsWrong c.args.image.now c.args.terms h (end_after c.args.image.now c.args.terms.fuel h) c.args.block.now) same
    (over_wrong c.args.image.now c.args.terms h c.args.packages.now.items c.args.home.now taken c.args.block.now p here (sym c.goes_on.ensures ∙ c.if-not-goes_on.true))

pub take_on-requires : goal.take_on-requires
take_on-requires c =
    let taken = c.requires.taken in
    let p = c.index_mut-package.result.now in
    let here = stands_read c.args.packages.now.items c.args.block.now.thread p (omega (arith, c.if-t-len.false, c.len.ensures, c.args.packages.now.ok.0)) c.index_mut-package.ensures.value in
    let before : Before = record { history = taken.0; packages = c.args.packages.now.items; states = taken.1.0 } in (
      before,
      next_of c.args.image.now c.args.terms taken.0 c.args.packages.now.items c.args.home.now taken.1 c.args.block.now p here (sym c.goes_on.ensures ∙ c.if-not-goes_on.false) (c.requires.stamp taken.0 taken.1),
    )

pub returns-clause-took : goal.returns-clause-took
returns-clause-took c e h taken =
    let p = c.index_mut-package.result.now in
    let here = stands_read c.args.packages.now.items c.args.block.now.thread p (omega (arith, c.if-t-len.false, c.len.ensures, c.args.packages.now.ok.0)) c.index_mut-package.ensures.value in
    let before : Before = record { history = h; packages = c.args.packages.now.items; states = taken.0 } in
    more_taken c.args.image.now c.args.terms h c.args.packages.now.items c.args.home.now taken c.args.block.now p here c.take_on.new.home c.take_on.new.«package»
    (c.take_on.ensures.took e before (next_of c.args.image.now c.args.terms h c.args.packages.now.items c.args.home.now taken c.args.block.now p here (sym c.goes_on.ensures ∙ c.if-not-goes_on.false) (c.requires.stamp h taken)))

pub returns-clause-wrong : goal.returns-clause-wrong
returns-clause-wrong c r e h taken =
    let p = c.index_mut-package.result.now in
    let here = stands_read c.args.packages.now.items c.args.block.now.thread p (omega (arith, c.if-t-len.false, c.len.ensures, c.args.packages.now.ok.0)) c.index_mut-package.ensures.value in
    let before : Before = record { history = h; packages = c.args.packages.now.items; states = taken.0 } in
    c.take_on.ensures.wrong r e before (next_of c.args.image.now c.args.terms h c.args.packages.now.items c.args.home.now taken c.args.block.now p here (sym c.goes_on.ensures ∙ c.if-not-goes_on.false) (c.requires.stamp h taken))

pub returns-clause-memory : goal.returns-clause-memory
returns-clause-memory c =
    let p = c.index_mut-package.result.now in
    let here = stands_read c.args.packages.now.items c.args.block.now.thread p (omega (arith, c.if-t-len.false, c.len.ensures, c.args.packages.now.ok.0)) c.index_mut-package.ensures.value in
    so_on_err c.take_on.result _ _ c.take_on.ensures.memory
    (λ same h taken. roomier_taken c.args.image.now c.args.terms h c.args.packages.now.items c.args.home.now taken c.args.block.now p here c.take_on.new.home c.take_on.new.«package» same.rooms same.home)
