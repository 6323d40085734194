use Rattle.tc_context.proofs.Vocabulary.{◌≡◌, ◌∙◌, true, refl, ap, sym, Option, Some, None, is_some, option_map, allows_of, Block, Grant, blocks_of, PackageView, fits_in, fits_granted, fits_of, view_of, view_with}
use Rattle.tc_context.proofs.Staging.{rests, shows}
use Rattle.tc_context.proofs.package.Package.fits.Goals as goal

-- beside a grant no block is pending
none_beside : (o : Option Block) (g : Grant) (granted : Option Grant) → (is_some o ≡ true → granted ≡ None) → granted ≡ Some g → o ≡ None
none_beside None g granted alone is = refl
none_beside (Some b) g granted alone is = absurd (let f : None ≡ Some g = sym (alone refl) ∙ is in cc)

pub returns-in-Some-find : goal.returns-in-Some-find
returns-in-Some-find c =
    let s = shows c.deref-contents.ensures c.self.view_is c.self.invariant in
    let g = c.in-Some.grant in
    let r = rests s (sym (ap (λ (v : PackageView). v.pending) s.is) ∙ none_beside (view_of c.deref-contents.result.now).pending g c.deref-contents.result.now.granted s.kept.sound.alone c.in-Some.is) in
    let l = c.in-Some-find.state.now in
    let found = sym c.find.ensures ∙ ap (option_map (λ l. l.now)) c.in-Some-find.is in
    c.allows.ensures ∙ ap (λ n. allows_of n l.journal.limit (blocks_of l) g.kind c.args.worker) (r.sound.stored g.lock l found).number
    ∙ ap (λ o. fits_in o g.lock g.kind c.args.worker) (sym found)
    ∙ ap (λ o. fits_granted (view_with None c.deref-contents.result.now).context o c.args.worker) (sym c.in-Some.is) ∙ ap (λ (v : PackageView). fits_of v c.args.worker) r.is
