use Rattle.std.proofs.Common.{rules, ◌≡◌, ℕ, subst}
use Rattle.tc_hall.specs.Steps.{after_look}
use Rattle.tc_ready.proofs.Scanning.{scan_passes, scan_finds}
use Rattle.tc_ready.proofs.ready.scan.Goals as goal

pub returns-then-look-eq0-clause-result : goal.returns-then-look-eq0-clause-result
returns-then-look-eq0-clause-result c =
    let looked : c.look.new.pass.knows ≡ after_look c.loop-t.pass.knows c.loop-t.t 0 = subst (λ (n : ℕ). c.look.new.pass.knows ≡ after_look c.loop-t.pass.knows c.loop-t.t n) c.if-look-eq0.true c.look.ensures.look in
    (c.loop-t-test.true, scan_finds c.loop-t.t c.args.pass.now.knows c.loop-t.pass.knows c.look.new.pass.knows c.loop-t.invariant.1 looked)

pub loop-t-preserved : goal.loop-t-preserved
loop-t-preserved c = (search rules, scan_passes c.loop-t.t c.look.result c.args.pass.now.knows c.loop-t.pass.knows c.look.new.pass.knows c.loop-t.invariant.1 c.if-look-eq0.false c.look.ensures.look)
