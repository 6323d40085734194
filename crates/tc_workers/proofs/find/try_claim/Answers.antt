use Rattle.std.proofs.Common.{None, sym, ap, subst, ◌∙◌}
use Rattle.tc_hall.specs.PassView.{PassView}
use Rattle.tc_hall.specs.Places.{origin_code, place_of}
use Rattle.tc_hall.specs.Standing.{ClaimsAs, IfLined}
use Rattle.tc_combiner.specs.View.{BenchView, DeskView}
use Rattle.tc_workers.specs.Worker.{HasClaimed, IsUnmoved}
use Rattle.tc_workers.proofs.Desks.{at_still, may_claim, one_claimed}
use Rattle.tc_workers.proofs.Passes.{unmoved_missed}
use Rattle.tc_workers.proofs.find.try_claim.Goals as goal

pub claim-requires-clause-stands : goal.claim-requires-clause-stands
claim-requires-clause-stands g c =
    let v = c.pass.result.now.knows in
    subst (λ (b : BenchView). IfLined b.hall.terms v (ClaimsAs v c.args.t (place_of (origin_code c.args.from)))) (sym c.bench.view_is) (may_claim c.args.bench.now c.args.desk.now c.pass.result.now c.args.from c.args.t c.requires.idle c.pass.ensures.value)

pub take_up-requires-clause-claimed : goal.take_up-requires-clause-claimed
take_up-requires-clause-claimed g c κs within = subst (HasClaimed c.args.bench.now c.in-Ok.«package») (sym c.number.ensures.same)
    (one_claimed c.args.bench.now c.args.desk.now c.pass.result.now c.claim.new.pass c.in-Ok.«package» c.args.from c.args.t c.requires.idle c.pass.ensures.value c.claim.ensures.own c.in-Ok.ensures.result)

pub returns-in-Err-clause-steps : goal.returns-in-Err-clause-steps
returns-in-Err-clause-steps g c =
    let u = subst (λ (p : PassView). IsUnmoved p c.claim.new.pass) c.pass.ensures.value (unmoved_missed c.pass.result.now c.claim.new.pass _ _ c.claim.ensures.own c.in-Err.ensures.result.1) in
    record { still = u.still; after = at_still c.args.bench.now None c.args.desk.now c.claim.new.pass c.requires.idle.desk u }

pub returns-in-Ok-clause-rest : goal.returns-in-Ok-clause-rest
returns-in-Ok-clause-rest g c = c.take_up.ensures.rest ∙ ap (λ (d : DeskView). record d { pass = c.take_up.new.desk.pass }) c.number.ensures.same
