-- The ends that a worker has of the deques of its crew.
use Rattle.std.proofs.Common.{◌≡◌, ℕ, ◌<◌, List, [], ◌∷◌, ◌++◌, All, length, map, get_or, set, slice_get, Option, Some, None, MatchOption, sym, ap, ◌∙◌, subst}
use Rattle.std.proofs.Math.Seq.{map-set_same}
use Rattle.std.proofs.lemmas.List.{map-set, get_or-map}
use Rattle.std.proofs.lemmas.List.Elements.{All-set}
use Rattle.tc_ready.specs.declared.ends.Offer.{Offer}
use Rattle.tc_ready.specs.Rule.{offer}
use Rattle.tc_ready.specs.EndView.{OtherView, Stole, IsEndFor}
use Rattle.tc_ready.specs.ReadyView.{ReadyView, deque_of, taken_of, StoleAt}

-- a steal changes no end but by what it took
abbrev pub DidSteal : Option ℕ → OtherView → OtherView → Type 0
DidSteal r d e = MatchOption r (e ≡ d) (λ t. Stole t d e)

same_deque : (r : Option ℕ) (d e : OtherView) → DidSteal r d e → (e.deque ≡ d.deque) × (e.threads ≡ d.threads)
same_deque None d e h = (ap (λ (z : OtherView). z.deque) h, ap (λ (z : OtherView). z.threads) h)
same_deque (Some t) d e h = (ap (λ (z : OtherView). z.deque) h.now, ap (λ (z : OtherView). z.threads) h.now)

pub ends_kept : (r : Option ℕ) (l : List OtherView) (j number n : ℕ) (own : ℕ × ℕ) (d e : OtherView) → d ≡ get_or l j d → d.threads ≡ n → DidSteal r d e
    → (slice_get (map deque_of l) number ≡ Some own) × All (IsEndFor n) l → (slice_get (map deque_of (set l j e)) number ≡ Some own) × All (IsEndFor n) (set l j e)
ends_kept r l j number n own d e at count did h =
    let same = same_deque r d e did in (
      ap (λ (z : List (ℕ × ℕ)). slice_get z number) (map-set_same deque_of l j e d (same.0 ∙ ap deque_of at)) ∙ h.0,
      All-set (IsEndFor n) l j e (same.1 ∙ count) h.1,
    )

abbrev pub view_with : ReadyView → List OtherView → ReadyView
view_with b l = record b { crew = map deque_of l; stolen = map taken_of l }

pub shown : (r : Option ℕ) (b old : ReadyView) (l : List OtherView) (j : ℕ) (d e : OtherView) → j < length l → d ≡ get_or l j d → d.threads ≡ b.threads → view_with b l ≡ old → DidSteal r d e
    → MatchOption r (view_with b (set l j e) ≡ old) (λ t. StoleAt j t old (view_with b (set l j e)))
shown None b old l j d e deep at count is did =
    let crew = map-set_same deque_of l j e d (ap deque_of (did ∙ at)) in
    let stolen = map-set_same taken_of l j e d (ap taken_of (did ∙ at)) in
    ap (λ (z : List (ℕ × ℕ) × List (List Offer)). record b { crew = z.0; stolen = z.1 }) (λ i. (crew i, stolen i)) ∙ is
shown (Some t) b old l j d e deep at count is did = subst (λ (z : ReadyView). StoleAt j t z (view_with b (set l j e))) is record {
  serial = did.serial;
  thread = subst (λ (n : ℕ). t < n) count did.thread;
  now =
      let crew = map-set_same deque_of l j e d ((same_deque (Some t) d e did).0 ∙ ap deque_of at) in
      let before : d.taken ≡ get_or (map taken_of l) j [] = ap taken_of at ∙ sym (get_or-map taken_of l j d [] deep) in
      let stolen : map taken_of (set l j e) ≡ set (map taken_of l) j (get_or (map taken_of l) j [] ++ offer did.serial t ∷ []) =
      map-set taken_of l j e ∙ ap (λ (z : List Offer). set (map taken_of l) j z) (ap taken_of did.now ∙ ap (λ (z : List Offer). z ++ offer did.serial t ∷ []) before) in
      ap (λ (z : List (ℕ × ℕ) × List (List Offer)). record b { crew = z.0; stolen = z.1 }) (λ i. (crew i, stolen i));
}
