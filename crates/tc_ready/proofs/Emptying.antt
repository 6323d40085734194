-- From any state of a deque there is one with the same worker's view and no offer: another worker took the rest.
use Rattle.std.proofs.Common.{◌≡◌, ⊎_elim, [], ◌∷◌, ◌++◌, sum_by, refl, sym, ap, ◌∙◌, append-nil, length-append, arith}
use Rattle.std.proofs.lemmas.List.Sums.{sum_by-append}
use mathlib.Core.Option.{some, some-injective}
use lib.ListN.{get_elem?}
use Rattle.crossbeam_deque.proofs.Lists.{at_snoc}
use Rattle.tc_ready.specs.declared.ends.Log.{Log}
use Rattle.tc_ready.specs.Rule.{KeptDeque}
use Rattle.tc_ready.specs.Law.{Limit}
use Rattle.tc_ready.proofs.Keeping.{total_more, at_front}

pub limit : Limit
limit tasks views v some_threads k at =
    let own : k.owner ≡ v = some-injective k.owner v (sym k.first ∙ at) in
    let n : k.owner.threads ≡ v.threads = ap (λ (z : Log). z.threads) own in
    let robber : Log = record { threads = v.threads; given = []; taken = k.rest; gone = 0 } in
    let rule : KeptDeque [] (views ++ robber ∷ []) = record {
      owner = k.owner;
      left = k.left ++ k.rest;
      rest = [];
      first = at_front views (robber ∷ []) k.owner k.first;
      others = λ id w e ne. ⊎_elim (λ (h : get_elem? views id ≡ some w). k.others id w h ne) (λ (h : robber ≡ w). ap (λ (z : Log). z.given) (sym h)) (at_snoc views robber w id e);
      threads = λ id w e. ⊎_elim (λ (h : get_elem? views id ≡ some w). k.threads id w h) (λ (h : robber ≡ w). ap (λ (z : Log). z.threads) (sym h) ∙ sym n) (at_snoc views robber w id e);
      sole = λ z. absurd (omega arith);
      offers = k.offers;
      split = k.split ∙ sym (append-nil (k.left ++ k.rest));
      lies = refl;
      taken = λ f. let a = total_more (λ z. sum_by f z.taken) views robber in let b = k.taken f in let c = sum_by-append f k.left k.rest in omega arith;
      gone = let a = k.gone in let b = length-append k.left k.rest in omega arith;
    } in
    record { views = views ++ robber ∷ []; owner = v; rule = rule; first = at_front views (robber ∷ []) v at; same = (refl, refl, refl) }
