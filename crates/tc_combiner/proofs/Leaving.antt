-- How a pass stands at the lines while the locks of a thread that has ended are passed on.
use Rattle.std.proofs.Common.{◌≡◌, ℕ, ◌==◌, Bool, true, false, if◌then◌else◌, [], ◌∷◌, refl, sym, ap, ◌∙◌, subst, Option, Some, None}
use Rattle.tc_hall.specs.Standing.{stand_in}
use Rattle.tc_hall.specs.Steps.{HasStop}
use Rattle.tc_combiner.specs.Stances.{CountsTurns, KnowsLines, LeftSo, SameTurns, StandsStill, beside}
use Rattle.tc_combiner.proofs.Vocabulary.{HallTerms, HasNone, Knows, Moves, Outs, Owned, Owns, Pack, PackageView, bare, outs, packed, unless}
use Rattle.tc_combiner.proofs.Lining.{aside_away}
use Rattle.tc_combiner.proofs.Owning.{swap}
use Rattle.tc_lemmas.proofs.Tests.{eq_self}

-- whatever is out stays out, while a package loses locks
pub out_still : (v w : Knows) (q p : PackageView) → Moves v w (Pack q ∷ []) (Pack p ∷ []) → bare p ≡ bare q → Owned v (Pack q ∷ []) → (t : ℕ) (c : PackageView) → (outs v).context t ≡ Some c → (outs w).context t ≡ Some c
out_still v w q p m same own t c e =
    let b : Outs = own.0 in
    let new : Owns b (outs w) (Pack p ∷ []) = m b [] own.1 in
    let thread : (t == p.context.thread) ≡ (t == q.context.thread) = ap (λ (x : PackageView). t == x.context.thread) same in
    elim (t == q.context.thread) as (λ (x : Bool). (t == q.context.thread) ≡ x → (outs w).context t ≡ Some c) [
      | true ↦ λ r.
          let here : (outs v).context t ≡ Some (bare q) = own.1.0.contexts t (bare q) (ap (λ (x : Bool). if x then Some (bare q) else None) r) in
          let there : (outs w).context t ≡ Some (bare p) = new.0.contexts t (bare p) (ap (λ (x : Bool). if x then Some (bare p) else None) (thread ∙ r)) in
          there ∙ (ap (λ (x : PackageView). Some x) same ∙ (sym here ∙ e))
      | false ↦ λ r.
          let here : b.context t ≡ (outs v).context t = sym (ap (λ (z : Outs). z.context t) own.1.1) ∙ ap (λ (x : Bool). unless (if x then Some (bare q) else None) ((outs v).context t)) r in
          let there : (outs w).context t ≡ b.context t = sym (ap (λ (x : Bool). unless (if x then Some (bare p) else None) ((outs w).context t)) (thread ∙ r)) ∙ ap (λ (z : Outs). z.context t) new.1 in
          there ∙ (here ∙ e)
    ] refl

-- ---- one lock after another

pub still_at : (k : HallTerms) (v w : Knows) (q : PackageView) (now : Bool) → now ≡ false → LeftSo k v w q now → StandsStill k v w q
still_at k v w q now e so = subst (LeftSo k v w q) e so

pub stop_at : (k : HallTerms) (v w : Knows) (q : PackageView) (now : Bool) → now ≡ true → LeftSo k v w q now → HasStop w
stop_at k v w q now e so = subst (LeftSo k v w q) e so

pub still_then : (k : HallTerms) (u v w : Knows) (p r : PackageView) (is : Bool) → ((t : ℕ) (c : PackageView) → (outs u).context t ≡ Some c → (outs v).context t ≡ Some c) → StandsStill k u v p → LeftSo k v w r is → LeftSo k u w r is
still_then k u v w p r true out a b = b
still_then k u v w p r false out a b = record { lines = b.lines; turns = λ lined t c e. b.turns lined t c (out t c e) ∙ a.turns lined t c e }

-- ---- beside the package that is set aside

module _ (k : HallTerms) (v : Knows) (q : PackageView) (a : Option PackageView) (free : (c : PackageView) → a ≡ Some c → HasNone c) (lines : KnowsLines k v (Pack q ∷ packed a)) where
  pub lines_alone : KnowsLines k v (Pack q ∷ [])
  lines_alone = record {
    stands = λ lined i. lines.stands lined i ∙ ap (beside (stand_in q i)) (aside_away a free i);
    turns = λ lined. ((lines.turns lined).0, tt);
  }

  counts_aside : (w : Knows) (o : Option PackageView) → Owned v (Pack q ∷ packed o) → SameTurns v w → CountsTurns v.calls (packed o) → CountsTurns w.calls (packed o)
  counts_aside w None own same counted = tt
  counts_aside w (Some d) own same counted =
      let out = (swap own.0 (outs v) (Pack q) (Pack d) [] own.1).0 in
      let there : (outs v).context d.context.thread ≡ Some (bare d) = out.contexts d.context.thread (bare d) (ap (λ (x : Bool). if x then Some (bare d) else None) (eq_self d.context.thread)) in
      (same d.context.thread (bare d) there ∙ counted.0, tt)

  -- it is there as before
  pub lines_beside : (w : Knows) (p : PackageView) → Owned v (Pack q ∷ packed a) → StandsStill k v w p → KnowsLines k w (Pack p ∷ packed a)
  lines_beside w p own still = record {
    stands = λ lined i. still.lines.stands lined i ∙ sym (ap (beside (stand_in p i)) (aside_away a free i));
    turns = λ lined. ((still.lines.turns lined).0, counts_aside w a own (still.turns lined) (lines.turns lined).1);
  }
