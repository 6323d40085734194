-- Each offer once.
use Rattle.std.proofs.Common.{◌≡◌, ◌≢◌, ◌⊎◌, ⊎_elim, inl, inr, ℕ, suc, ◌+◌, ◌<◌, ◌≤◌, ◌==◌, Bool, true, false, List, [], ◌∷◌, ◌++◌, sum_by, refl, sym, ap, ◌∙◌, arith}
use Rattle.std.proofs.lemmas.List.Sums.{sum_by-append, sum_by-cons}
use Rattle.std.proofs.lemmas.Bool.Decides.{nat_tests}
use mathlib.Core.Option.{some, some-injective}
use lib.ListN.{get_elem?}
use Rattle.tc_ready.specs.declared.ends.Offer.{Offer}
use Rattle.tc_ready.specs.declared.ends.Log.{Log}
use Rattle.tc_ready.specs.Law.{bit, times, EachOnce}

none_below : (k n : ℕ) (xs : List Offer) → ((i : ℕ) (x : Offer) → get_elem? xs i ≡ some x → x.serial ≡ k + i) → n < k → times n xs ≡ 0
none_below k n [] all low = refl
none_below k n (x ∷ xs) all low =
    let is : x.serial ≡ k + 0 = all 0 x refl in
    let rest = none_below (k + 1) n xs (λ i y e. all (suc i) y e ∙ omega arith) (omega arith) in
    let miss : bit (x.serial == n) ≡ 0 = other x.serial n (λ e. omega arith) in
    let c = sum_by-cons (λ (y : Offer). bit (y.serial == n)) x xs in omega arith
  where
    other : (a b : ℕ) → a ≢ b → bit (a == b) ≡ 0
    other a b ne = go (a == b) refl
      where
        go : (v : Bool) → (a == b) ≡ v → bit v ≡ 0
        go true is = absurd (ne (grind (arith, nat_tests)))
        go false is = refl

hit_or_miss : (a b : ℕ) → ((a ≡ b) × (bit (a == b) ≡ 1)) ⊎ (bit (a == b) ≡ 0)
hit_or_miss a b = go (a == b) refl
  where
    go : (v : Bool) → (a == b) ≡ v → ((a ≡ b) × (bit v ≡ 1)) ⊎ (bit v ≡ 0)
    go true is = inl ((let q = is in grind (arith, nat_tests)), refl)
    go false is = inr refl

at_most_once : (k n : ℕ) (xs : List Offer) → ((i : ℕ) (x : Offer) → get_elem? xs i ≡ some x → x.serial ≡ k + i) → times n xs ≤ 1
at_most_once k n [] all = omega arith
at_most_once k n (x ∷ xs) all =
    let is : x.serial ≡ k + 0 = all 0 x refl in
    let later : (i : ℕ) (y : Offer) → get_elem? xs i ≡ some y → y.serial ≡ k + 1 + i = λ i y e. all (suc i) y e ∙ omega arith in
    let rest = at_most_once (k + 1) n xs later in
    let c = sum_by-cons (λ (y : Offer). bit (y.serial == n)) x xs in
    ⊎_elim (λ (h : (x.serial ≡ n) × (bit (x.serial == n) ≡ 1)). let none = none_below (k + 1) n xs later (let a = h.0 in omega arith) in let b = h.1 in omega arith)
    (λ (h : bit (x.serial == n) ≡ 0). omega arith)
    (hit_or_miss x.serial n)

pub each_once : EachOnce
each_once tasks views owner k at =
    let own : k.owner ≡ owner = some-injective k.owner owner (sym k.first ∙ at) in
    let all : k.owner.given ≡ owner.given = ap (λ (z : Log). z.given) own in
    record {
      rest = k.rest;
      lies = k.lies;
      each = λ n. let f : Offer → ℕ = λ x. bit (x.serial == n) in let a = k.taken f in let b = sum_by-append f k.left k.rest in let c : sum_by f owner.given ≡ sum_by f (k.left ++ k.rest) = ap (sum_by f) (sym all ∙ k.split) in omega arith;
      once = λ n. at_most_once 0 n owner.given (λ i x e. (k.offers i x (ap (λ (l : List Offer). get_elem? l i) all ∙ e)).0 ∙ omega arith);
    }
