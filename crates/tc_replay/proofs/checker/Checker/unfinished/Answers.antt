use Rattle.std.proofs.Common.{◌≡◌, ◌∙◌, ap, sym, subst, arith, length}
use Rattle.tc_mutex_spec.specs.Blocks.{end_after}
use Rattle.tc_mutex_spec.proofs.ListLaws.{there}
use Rattle.tc_law.specs.Lawful.{StandsAt}
use Rattle.tc_replay.specs.Rejected.{IsFirstOn}
use Rattle.tc_replay.specs.Taken.{CheckerView}
use Rattle.tc_replay.proofs.Whole.{stands_read}
use Rattle.tc_replay.proofs.Ending.{kept_by, first_on, ended_more, all_ended}
use Rattle.tc_replay.proofs.checker.Checker.unfinished.Goals as goal

pub returns-then-goes_on-clause-some : goal.returns-then-goes_on-clause-some
returns-then-goes_on-clause-some c t e =
    let v = c.args.self.now in
    let p = c.index.result.now in
    let same : c.loop-t.t ≡ t = cc in
    let here = subst (λ l. StandsAt l c.loop-t.t p) (ap (λ (x : CheckerView). x.packages) c.self.view_is) (stands_read c.self.inside.packages.items c.loop-t.t p (omega (arith, c.loop-t-test.true, c.len-t-end.ensures, c.self.inside.packages.ok.0)) c.index.ensures) in
    subst (IsFirstOn v.image (end_after v.image v.terms.fuel v.taken)) same
    (first_on v.image v.terms v.taken v.packages v.home (kept_by _ v c.self.view_is c.self.invariant.0 c.requires) c.loop-t.t p here (sym c.goes_on.ensures ∙ c.if-goes_on.true) (λ u x lt. c.loop-t.invariant.ended u x lt))

pub loop-t-preserved : goal.loop-t-preserved
loop-t-preserved c =
    let p = c.index.result.now in
    let here = subst (λ l. StandsAt l c.loop-t.t p) (ap (λ (x : CheckerView). x.packages) c.self.view_is) (stands_read c.self.inside.packages.items c.loop-t.t p (omega (arith, c.loop-t-test.true, c.len-t-end.ensures, c.self.inside.packages.ok.0)) c.index.ensures) in
    record { ended = ended_more c.args.self.now.packages c.loop-t.t p c.loop-t.invariant.ended here (sym c.goes_on.ensures ∙ c.if-goes_on.false) }

pub returns-clause-none : goal.returns-clause-none
returns-clause-none c e =
    let v = c.args.self.now in
    all_ended v.image v.terms v.taken v.packages v.home (kept_by _ v c.self.view_is c.self.invariant.0 c.requires) (λ u x at.
    let lt = (there v.packages u x x at).0 in
    let many = ap (λ (y : CheckerView). length y.packages) c.self.view_is in
    c.loop-t.invariant.ended u x (omega (arith, lt, many, c.loop-t-test.false, c.len-t-end.ensures, c.self.inside.packages.ok.0)) at)
