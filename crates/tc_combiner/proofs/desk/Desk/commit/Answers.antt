use Rattle.std.proofs.Common.{◌≡◌, [], ◌∷◌, map, Some, refl, sym, ap, ◌∙◌, subst}
use Rattle.tc_hall.specs.Standing.{IfLined, SealsPending}
use Rattle.tc_combiner.specs.Settling.{KeepsSealed}
use Rattle.tc_combiner.specs.Stances.{KnowsLines}
use Rattle.tc_combiner.proofs.Vocabulary.{BenchView, DeskView, FitsBench, HallTerms, HasNone, IsInHand, Knows, MayCommit, Moves, Pack, PackageView, desk_of, packed}
use Rattle.tc_combiner.proofs.Fitting.{fits_after}
use Rattle.tc_combiner.proofs.Ending.{seats_first}
use Rattle.tc_combiner.proofs.Sealing.{may_seal, seal_lines, sealed_moves, seals_pending}
use Rattle.tc_combiner.proofs.Owning.{without_first}
use Rattle.tc_combiner.proofs.desk.Desk.commit.Goals as goal

pub commit-stamp-requires-clause-ready : goal.commit-stamp-requires-clause-ready
commit-stamp-requires-clause-ready g c = may_seal c.args.bench.now.hall.terms _ c.args.«package».now (subst (λ (d : DeskView). MayCommit c.args.bench.now.hall.terms d c.args.«package».now) (sym c.self.view_is) c.requires.may)

pub commit-stamp-requires-clause-stands : goal.commit-stamp-requires-clause-stands
commit-stamp-requires-clause-stands g c =
    let d : DeskView = desk_of c.self.inside.parts.pass (map g.Q.Order.seen c.self.inside.seats.items) c.self.inside.sleeping.sleepers c.self.inside.sleeping.clock c.self.inside.parts.aside c.self.inside.parts.ready.items in
    let may : MayCommit c.args.bench.now.hall.terms d c.args.«package».now = subst (λ (z : DeskView). MayCommit c.args.bench.now.hall.terms z c.args.«package».now) (sym c.self.view_is) c.requires.may in
    let free : (a : PackageView) → d.aside ≡ Some a → HasNone a = λ a e. (c.requires.fits.aside a (sym (ap (λ (z : DeskView). z.aside) c.self.view_is) ∙ e)).free in
    subst (λ (x : BenchView). IfLined x.hall.terms d.pass.knows (SealsPending d.pass.knows c.args.«package».now)) (sym c.bench.view_is)
    (seals_pending c.args.bench.now.hall.terms d.pass.knows may.before c.args.«package».now d.aside free may.ready may.ran)

pub returns-clause-keeps : goal.returns-clause-keeps
returns-clause-keeps g c =
    let q : PackageView = c.args.«package».now in
    let k : HallTerms = c.args.bench.now.hall.terms in
    let d : DeskView = desk_of c.self.inside.parts.pass (map g.Q.Order.seen c.self.inside.seats.items) c.self.inside.sleeping.sleepers c.self.inside.sleeping.clock c.self.inside.parts.aside c.self.inside.parts.ready.items in
    let may : MayCommit k d q = subst (λ (z : DeskView). MayCommit k z q) (sym c.self.view_is) c.requires.may in
    let free : (a : PackageView) → d.aside ≡ Some a → HasNone a = λ a e. (c.requires.fits.aside a (sym (ap (λ (z : DeskView). z.aside) c.self.view_is) ∙ e)).free in
    let v : Knows = d.pass.knows in
    let w : Knows = c.commit-stamp.new.pass.knows in
    subst (λ (z : DeskView). KeepsSealed k q c.commit-stamp.new.«package» z (record d { pass = c.commit-stamp.new.pass; now = c.saturating_add-self-inside.result })) c.self.view_is (record {
      moves = λ p ran. subst (λ (z : PackageView). Moves v w (Pack p ∷ []) (Pack z ∷ [])) (sym c.commit-stamp.ensures.context) (sealed_moves v.image v w p q c.commit-stamp.result ran c.commit-stamp.ensures.seals);
      lines = subst (λ (z : PackageView). KnowsLines k w (Pack z ∷ packed d.aside)) (sym c.commit-stamp.ensures.context) (seal_lines k v may.before q d.aside free may.ready may.ran w c.commit-stamp.result c.commit-stamp.ensures.seals);
    })

pub returns-clause-fits : goal.returns-clause-fits
returns-clause-fits g c =
    let d : DeskView = desk_of c.self.inside.parts.pass (map g.Q.Order.seen c.self.inside.seats.items) c.self.inside.sleeping.sleepers c.self.inside.sleeping.clock c.self.inside.parts.aside c.self.inside.parts.ready.items in
    let w : Knows = c.commit-stamp.new.pass.knows in
    let sealed : Moves d.pass.knows w (Pack c.requires.may.before ∷ []) (Pack c.commit-stamp.new.«package» ∷ []) = subst (λ (z : PackageView). Moves d.pass.knows w (Pack c.requires.may.before ∷ []) (Pack z ∷ [])) (sym c.commit-stamp.ensures.context)
    (sealed_moves c.args.self.now.pass.knows.image d.pass.knows w c.requires.may.before c.args.«package».now c.commit-stamp.result c.requires.may.ran c.commit-stamp.ensures.seals) in
    let hand : IsInHand d c.requires.may.before = subst (λ (z : DeskView). IsInHand z c.requires.may.before) (sym c.self.view_is) c.requires.may.hand in
    fits_after c.args.bench.now d.pass c.commit-stamp.new.pass d.seats d.seats d.sleepers d.sleepers d.now c.saturating_add-self-inside.result d.aside d.aside d.handed d.handed
    (subst (λ (z : DeskView). FitsBench c.args.bench.now z) (sym c.self.view_is) c.requires.fits) c.commit-stamp.ensures.own (ap (λ (v : Knows). v.image) c.commit-stamp.ensures.seals.now) (seats_first d.seats) refl (λ a e. c.requires.fits.aside a (sym (ap (λ (z : DeskView). z.aside) c.self.view_is) ∙ e))
    (without_first c.commit-stamp.new.pass.knows (Pack c.commit-stamp.new.«package») (packed d.aside) (hand.0, sealed hand.0 (packed d.aside) hand.1))
