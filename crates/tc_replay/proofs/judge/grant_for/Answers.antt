use Rattle.std.proofs.Common.{◌∙◌, sym, subst}
use Rattle.tc_segment.specs.View.{IsAtRest}
use Rattle.tc_context.specs.View.{PackageView, IsWaiting}
use Rattle.tc_replay.proofs.judge.grant_for.Goals as goal

pub grant-requires-clause-waiting : goal.grant-requires-clause-waiting
grant-requires-clause-waiting c =
    let l = c.in-Some.state in
    let w = (c.requires.may l (sym c.take_out.ensures.taken ∙ c.in-Some.is)).waiting in
    subst (λ (p : PackageView). IsWaiting p l.number) (sym c.next_number-number.ensures.rest) (record { pending = w.pending; granted = w.granted; want = w.want; absent = w.absent })

pub grant-requires-clause-rest : goal.grant-requires-clause-rest
grant-requires-clause-rest c =
    let l = c.in-Some.state in
    let may = c.requires.may l (sym c.take_out.ensures.taken ∙ c.in-Some.is) in
    subst (λ (p : PackageView). IsAtRest p.image l.number l) (sym c.next_number-number.ensures.rest) may.rest
