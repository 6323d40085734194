-- What a desk answers: one after another, and with packages put back.
use Rattle.std.proofs.Common.{◌≡◌, ℕ, List, [], ◌∷◌, ◌++◌, sym, ◌∙◌, subst, Option}
use Rattle.tc_combiner.proofs.Vocabulary.{Acted, Acts, Adds, Answers, PassCall, Did_stop, HallView, DeskParts, HasReadied, IsAt, IsAtHall, IsGood, IsGoodFor, Item, Knows, Pack, PackageView, PassView, PutAllBack, Settled, Shown, TakesDown, HallTerms, back, carried, change, packed, threads}
use Rattle.tc_combiner.proofs.Acting.{acts_then, at_after, takes_then}

-- ---- the threads that were put as ready

readied_then : (n : ℕ) (r : Settled) (xs ys zs : List ℕ) (cs ds : List PassCall) → TakesDown n xs ys cs → HasReadied n r ys zs ds → HasReadied n r xs zs (cs ++ ds)
readied_then n Did_stop xs ys zs cs ds a b = b
readied_then n r xs ys zs cs ds a b = takes_then n xs ys zs cs ds a b

-- ---- one after another

-- a call that changed the package in hand alone
pub wider : (cs : List PassCall) (q : PackageView) (h g : DeskParts) → g.aside ≡ h.aside → Acts cs (Pack q ∷ []) [] h.pass g.pass → Acts cs (Pack q ∷ packed h.aside) (packed g.aside) h.pass g.pass
wider cs q h g e a = subst (λ (o : Option PackageView). Acts cs (Pack q ∷ packed h.aside) (packed o) h.pass g.pass) (sym e) (record { own = a.own; adds = a.adds; moves = λ b zs o. a.moves b (packed h.aside ++ zs) o })

changed : (cs : List PassCall) (q p : PackageView) (xs : List Item) (v w : PassView) → Acts cs (Pack q ∷ []) (Pack p ∷ []) v w → Acts cs (Pack q ∷ xs) (Pack p ∷ xs) v w
changed cs q p xs v w a = record { own = a.own; adds = a.adds; moves = λ b zs o. a.moves b (xs ++ zs) o }

pub then_answers : (k : HallTerms) (cs ds : List PassCall) (q p : PackageView) (h m g : DeskParts) (r : Settled) → Acted k cs (Pack q ∷ []) (Pack p ∷ []) (change h m) → m.aside ≡ h.aside → Answers k ds p (change m g) r → Answers k (cs ++ ds) q (change h g) r
then_answers k cs ds q p h m g r a e b = record {
  acts = acts_then cs ds (Pack q ∷ packed h.aside) (Pack p ∷ packed h.aside) (carried r ++ packed g.aside) h.pass m.pass g.pass
      (changed cs q p (packed h.aside) h.pass m.pass a.acts)
      (subst (λ (o : Option PackageView). Acts ds (Pack p ∷ packed o) (carried r ++ packed g.aside) m.pass g.pass) e b.acts);
  readied = readied_then (threads k) r h.ready.items m.ready.items g.ready.items cs ds a.readied b.readied;
  aside = b.aside;
}

-- so the desk may act on
pub then_at : (hall : HallView) (cs : List PassCall) (q p : PackageView) (h m : DeskParts) → IsAtHall hall (Pack q ∷ packed h.aside) h → Acted hall.terms cs (Pack q ∷ []) (Pack p ∷ []) (change h m) → m.aside ≡ h.aside → IsAtHall hall (Pack p ∷ packed m.aside) m
then_at hall cs q p h m may a e = subst (λ (o : Option PackageView). IsAt hall (Pack p ∷ packed o) m.pass m.aside) (sym e) (at_after hall cs (Pack q ∷ packed h.aside) (Pack p ∷ packed h.aside) h.pass m.pass h.aside m.aside may (changed cs q p (packed h.aside) h.pass m.pass a.acts) e)

-- a call that left what is set aside
pub keeps_answers : (hall : HallView) (cs : List PassCall) (q : PackageView) (h g : DeskParts) (r : Settled) → IsAtHall hall (Pack q ∷ packed h.aside) h → Acts cs (Pack q ∷ packed h.aside) (carried r ++ packed g.aside) h.pass g.pass → HasReadied (threads hall.terms) r h.ready.items g.ready.items cs → g.aside ≡ h.aside → Answers hall.terms cs q (change h g) r
keeps_answers hall cs q h g r may a told e = record { acts = a; readied = told; aside = λ b f. may.aside b (sym e ∙ f) }

-- all was put back
pub back_answers : (k : HallTerms) (q : PackageView) (h g : DeskParts) → PutAllBack q (change h g) → Answers k (back q h.aside) q (change h g) Did_stop
back_answers k q h g a = record {
  acts = subst (λ (o : Option PackageView). Acts (back q h.aside) (Pack q ∷ packed h.aside) (packed o) h.pass g.pass) (sym a.aside) a.acts;
  readied = a.ready;
  aside = λ b e. let f = a.aside in let n : ⊥ = cc in absurd n;
}

-- ---- in the words of a desk

-- what is good for the pass before is so afterwards
pub good_after : (cs : List PassCall) (v w : Knows) (q : PackageView) → Adds cs v w → IsGood q v.image v.worker → IsGoodFor w q
good_after cs v w q a h = subst (λ (n : ℕ). IsGood q w.image n) (sym a.told.worker) (subst (λ (x : Shown). IsGood q x v.worker) (sym a.told.image) h)
