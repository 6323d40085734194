use Rattle.std.proofs.Common.{sym, ap, ◌∙◌, subst, arith}
use Rattle.tc_hall.proofs.Vocabulary.{DidSeal, HallView, Knows, PackageView, PassView, Seals}
use Rattle.std.specs.Prelude.{Option}
use Rattle.tc_hall.specs.Standing.{IfLined, SealsPending}
use Rattle.tc_hall.proofs.Putting.{seals_block}
use Rattle.tc_hall.proofs.Stepping.{SealsAll, seals}
use Rattle.tc_hall.proofs.hall.Hall.seal_as.Goals as goal

pub fetch_add-requires : goal.fetch_add-requires
fetch_add-requires g c =
    let seat = c.pass.inside.seat in
    let own = ap (λ (p : PassView). p.table) c.pass.view_is ∙ (c.requires.own ∙ sym (ap (λ (h : HallView). h.table) c.self.view_is)) in
    let ready : Seals seat.me.0 c.args.«package».now = subst (λ (p : PassView). Seals p.knows c.args.«package».now) (sym c.pass.view_is) c.requires.ready in
    let key = c.self.inside.board.shared.key in
    let stands : IfLined key seat.me.0 (SealsPending seat.me.0 c.args.«package».now) = subst (λ (z : HallView × PassView). IfLined z.0.terms z.1.knows (SealsPending z.1.knows c.args.«package».now)) (λ i. (sym c.self.view_is i, sym c.pass.view_is i)) c.requires.stands in
    (own, omega (arith, c.self.invariant.1), subst (λ (o : Option PackageView). SealsAll key c.self.inside.board.shared.table_id.slots seat.id seat.me.0 o seat.me.1) (sym c.requires.picked) (seals key _ seat.id seat.me.0 c.args.«package».now seat.me.1 c.pass.invariant.0 c.pass.invariant.3 ready (seals_block key seat.me.0 c.args.«package».now ready stands)))

pub invariant_of-pass : goal.invariant_of-pass
invariant_of-pass g c =
    let did = c.fetch_add.ensures.2 c.args.«package».now c.requires.picked in
    let now = did.0.now in (
      did.1 ∙ c.pass.invariant.0,
      ap (λ (z : Knows). z.open_slot) now ∙ c.pass.invariant.1,
      c.pass.invariant.2 ∙ sym (ap (λ (z : Knows). z.worker) now),
      ap (λ (z : Knows). z.spent) now ∙ c.pass.invariant.3,
    )

pub returns-clause-seals : goal.returns-clause-seals
returns-clause-seals g c =
    let did = c.fetch_add.ensures.2 c.args.«package».now c.requires.picked in
    subst (λ (p : PassView). DidSeal c.args.«package».now c.fetch_add.result p.knows c.fetch_add.new.seat.me.0) c.pass.view_is did.0
