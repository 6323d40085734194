-- Each step keeps the rule of a deque.
use Rattle.std.proofs.Common.{◌≡◌, ◌≢◌, ◌⊎◌, ℕ, zero, suc, ◌+◌, ◌<◌, ◌≤◌, max, List, [], ◌∷◌, ◌++◌, length, length-set, set, map, sum_by, sym, refl, ap, ◌∙◌, subst, ⊎_elim, inl, inr, append_assoc, length-append, arith}
use Rattle.std.proofs.Math.Nat.{max-le}
use Rattle.std.proofs.lemmas.List.{map-append}
use Rattle.std.proofs.lemmas.List.Sums.{sum_by-append, sum_by-cons}
use mathlib.Core.Option.{some, some-injective, some-ne-none}
use lib.ListN.{get_elem?}
use Rattle.crossbeam_deque.specs.Tasks.{Pushes, Takes, Finds, Forks}
use Rattle.crossbeam_deque.proofs.Lists.{at_set, set_here, set_again, at_snoc}
use Rattle.tc_ready.specs.declared.ends.Offer.{Offer}
use Rattle.tc_ready.specs.declared.ends.Log.{Log}
use Rattle.tc_ready.specs.Rule.{fresh, opened, offer, thread_of, AreOffers, KeptDeque, given, took, popped, found_empty}
use Rattle.tc_lemmas.proofs.Lists.{in_range, at_end}

-- the total after a change of one view
total_set : (f : Log → ℕ) (views : List Log) (id : ℕ) (v w : Log) → get_elem? views id ≡ some v → sum_by f (set views id w) + f v ≡ sum_by f views + f w
total_set f [] id v w e = absurd (some-ne-none v (sym e))
total_set f (x ∷ xs) zero v w e = let h : f x ≡ f v = ap f (some-injective x v e) in let a = sum_by-cons f w xs in let b = sum_by-cons f x xs in omega arith
total_set f (x ∷ xs) (suc id) v w e = let h = total_set f xs id v w e in let a = sum_by-cons f x (set xs id w) in let b = sum_by-cons f x xs in omega arith

pub total_more : (f : Log → ℕ) (views : List Log) (v : Log) → sum_by f (views ++ v ∷ []) ≡ sum_by f views + f v
total_more f views v = let a = sum_by-append f views (v ∷ []) in let b = sum_by-cons f v [] in let c : sum_by f [] ≡ 0 = refl in omega arith

offers_more : (n : ℕ) (xs : List Offer) (x : Offer) → AreOffers n xs → x.serial ≡ length xs → x.thread < n → AreOffers n (xs ++ x ∷ [])
offers_more n xs x all is low i y e = ⊎_elim (λ h. all i y h) (λ h. (ap (λ (z : Offer). z.serial) (sym h.1) ∙ (is ∙ sym h.0), subst (λ (z : Offer). z.thread < n) h.1 low)) (at_end xs x y i e)

at_middle : {A : Type 0} (xs : List A) (y : A) (ys : List A) → get_elem? (xs ++ y ∷ ys) (length xs) ≡ some y
at_middle [] y ys = refl
at_middle (x ∷ xs) y ys = at_middle xs y ys

pub at_front : {A : Type 0} (l m : List A) (a : A) → get_elem? l 0 ≡ some a → get_elem? (l ++ m) 0 ≡ some a
at_front [] m a e = absurd (some-ne-none a (sym e))
at_front (x ∷ xs) m a e = e

only : (P : Log → Type 0) (v : Log) → P v → (id : ℕ) (u : Log) → get_elem? (v ∷ []) id ≡ some u → P u
only P v h zero u e = subst P (some-injective v u e) h
only P v h (suc id) u e = absurd (some-ne-none u (sym e))

pub begins : KeptDeque [] (fresh ∷ [])
begins = record {
  owner = fresh;
  left = [];
  rest = [];
  first = refl;
  others = λ id v e ne. only (λ z. z.given ≡ []) fresh refl id v e;
  threads = only (λ z. z.threads ≡ 0) fresh refl;
  sole = λ z. refl;
  offers = λ i x e. absurd (some-ne-none x (sym e));
  split = refl;
  lies = refl;
  taken = λ f. refl;
  gone = omega arith;
}

-- a new deque is told how many threads there are, before any other pass is made
pub opens : (n : ℕ) → 0 < n → Forks KeptDeque 0 fresh (opened n) (opened n)
opens n some_threads tasks views k at = alone views at k.first (k.sole (ap (λ (z : Log). z.threads) own)) k
  where
    own : k.owner ≡ fresh
    own = some-injective k.owner fresh (sym k.first ∙ at)

    nothing : (f : Offer → ℕ) → sum_by f k.left ≡ 0
    nothing f = let e : k.left ++ k.rest ≡ [] = sym k.split ∙ ap (λ (z : Log). z.given) own in let a = sum_by-append f k.left k.rest in let b = ap (sum_by f) e in omega arith

    alone : (vs : List Log) → get_elem? vs 0 ≡ some fresh → get_elem? vs 0 ≡ some k.owner → length vs ≡ 1 → KeptDeque tasks vs → KeptDeque tasks (set vs 0 (opened n) ++ opened n ∷ [])
    alone [] at first one kk = absurd (omega arith)
    alone (x ∷ y ∷ xs) at first one kk = absurd (omega arith)
    alone (x ∷ []) at first one kk = record {
      owner = opened n;
      left = k.left;
      rest = k.rest;
      first = refl;
      others = two (λ z. z.given ≡ []) refl;
      threads = λ id v e. two_all (λ z. z.threads ≡ n) refl id v e;
      sole = λ z. absurd (omega arith);
      offers = λ i y e. absurd (some-ne-none y (sym e));
      split = sym (ap (λ (z : Log). z.given) own) ∙ k.split;
      lies = k.lies;
      taken = λ f. sym (nothing f);
      gone = omega arith;
    }
      where
        two_all : (P : Log → Type 0) → P (opened n) → (id : ℕ) (u : Log) → get_elem? (opened n ∷ opened n ∷ []) id ≡ some u → P u
        two_all P h zero u e = subst P (some-injective (opened n) u e) h
        two_all P h (suc zero) u e = subst P (some-injective (opened n) u e) h
        two_all P h (suc (suc id)) u e = absurd (some-ne-none u (sym e))

        two : (P : Log → Type 0) → P (opened n) → (id : ℕ) (u : Log) → get_elem? (opened n ∷ opened n ∷ []) id ≡ some u → id ≢ 0 → P u
        two P h id u e ne = two_all P h id u e

-- a pass for another worker
pub deals : (v : Log) → 0 < v.threads → Forks KeptDeque 0 v v (opened v.threads)
deals v some_threads tasks views k at = subst (λ (l : List Log). KeptDeque tasks (l ++ opened v.threads ∷ [])) (sym (set_again views 0 v at))
    (let own : k.owner ≡ v = some-injective k.owner v (sym k.first ∙ at) in
    let n : v.threads ≡ k.owner.threads = ap (λ (z : Log). z.threads) (sym own) in
    let u : Log = opened v.threads in
    record {
      owner = k.owner;
      left = k.left;
      rest = k.rest;
      first = at_front views (u ∷ []) k.owner k.first;
      others = λ id w e ne. ⊎_elim (λ (h : get_elem? views id ≡ some w). k.others id w h ne) (λ (h : u ≡ w). ap (λ (z : Log). z.given) (sym h)) (at_snoc views u w id e);
      threads = λ id w e. ⊎_elim (λ (h : get_elem? views id ≡ some w). k.threads id w h) (λ (h : u ≡ w). ap (λ (z : Log). z.threads) (sym h) ∙ n) (at_snoc views u w id e);
      sole = λ z. absurd (omega arith);
      offers = k.offers;
      split = k.split;
      lies = k.lies;
      taken = λ f. total_more (λ z. sum_by f z.taken) views u ∙ let t = k.taken f in omega arith;
      gone = k.gone;
    })

all_set : (P : Log → Type 0) (views : List Log) (id : ℕ) (w : Log) → P w → ((j : ℕ) (u : Log) → get_elem? views j ≡ some u → P u) → (j : ℕ) (u : Log) → get_elem? (set views id w) j ≡ some u → P u
all_set P views id w h all j u e = ⊎_elim (λ (o : (j ≡ id) × (w ≡ u)). subst P o.1 h) (λ (o : (j ≢ id) × (get_elem? views j ≡ some u)). all j u o.1) (at_set views id j w u e)

others_set : (views : List Log) (id : ℕ) (v w : Log) → get_elem? views id ≡ some v → (id ≢ 0 → w.given ≡ v.given)
    → ((j : ℕ) (u : Log) → get_elem? views j ≡ some u → j ≢ 0 → u.given ≡ []) → (j : ℕ) (u : Log) → get_elem? (set views id w) j ≡ some u → j ≢ 0 → u.given ≡ []
others_set views id v w at same all j u e ne = ⊎_elim
    (λ (h : (j ≡ id) × (w ≡ u)). let ne' : id ≢ 0 = λ z. ne (h.0 ∙ z) in ap (λ (z : Log). z.given) (sym h.1) ∙ (same ne' ∙ all id v at ne'))
    (λ (h : (j ≢ id) × (get_elem? views j ≡ some u)). all j u h.1 ne)
    (at_set views id j w u e)

-- the worker gives one offer more, with the next number
pub gives : (v : Log) (t : ℕ) → t < v.threads → Pushes KeptDeque 0 v (t ∷ []) (given v (t ∷ []))
gives v t low tasks views k at =
    let x : Offer = offer (length v.given) t in
    let w : Log = record v { given = v.given ++ x ∷ [] } in
    let own : k.owner ≡ v = some-injective k.owner v (sym k.first ∙ at) in
    let n : k.owner.threads ≡ v.threads = ap (λ (z : Log). z.threads) own in
    let own_given : k.owner.given ≡ v.given = ap (λ (z : Log). z.given) own in (
      w,
      record {
        owner = w;
        left = k.left;
        rest = k.rest ++ x ∷ [];
        first = set_here views 0 w (in_range views 0 v at);
        others = others_set views 0 v w at (λ ne. absurd (ne refl)) k.others;
        threads = all_set (λ z. z.threads ≡ v.threads) views 0 w refl (λ j u e. k.threads j u e ∙ n);
        sole = λ z. length-set views 0 w ∙ k.sole (n ∙ z);
        offers = offers_more v.threads v.given x (subst (λ (z : Log). AreOffers z.threads z.given) own k.offers) refl low;
        split = ap (λ (l : List Offer). l ++ x ∷ []) (sym own_given ∙ k.split) ∙ append_assoc k.left k.rest (x ∷ []);
        lies = ap (λ (l : List ℕ). l ++ t ∷ []) k.lies ∙ sym (map-append thread_of k.rest (x ∷ []));
        taken = λ f. let h = total_set (λ z. sum_by f z.taken) views 0 v w at in let e = k.taken f in omega arith;
        gone = subst (λ (z : Log). z.gone ≤ length k.left) own k.gone;
      },
      refl,
    )

-- The deque without its first offer
record Taken (t : ℕ) (tasks : List ℕ) (views : List Log) (k : KeptDeque (t ∷ tasks) views) : Type 0 where
  serial : ℕ
  rest : List Offer
  is : k.rest ≡ offer serial t ∷ rest
  lies : tasks ≡ map thread_of rest
  low : t < k.owner.threads
  place : serial ≡ length k.left
  own : serial < length k.owner.given

first_of : (t : ℕ) (tasks : List ℕ) (views : List Log) (k : KeptDeque (t ∷ tasks) views) → Taken t tasks views k
first_of t tasks views k = go k.rest refl k.lies
  where
    go : (l : List Offer) → k.rest ≡ l → t ∷ tasks ≡ map thread_of l → Taken t tasks views k
    go [] e lies = absurd (cc lies)
    go (x ∷ l) e lies =
        let same : t ≡ x.thread = cc lies in
        let split : k.owner.given ≡ k.left ++ x ∷ l = k.split ∙ ap (λ (z : List Offer). k.left ++ z) e in
        let is = k.offers (length k.left) x (subst (λ (z : List Offer). get_elem? z (length k.left) ≡ some x) (sym split) (at_middle k.left x l)) in
        let long : length k.owner.given ≡ length k.left + suc (length l) = ap length split ∙ length-append k.left (x ∷ l) in
        let serial = is.0 in
        record {
          serial = x.serial;
          rest = l;
          is = e ∙ ap (λ (z : ℕ). offer x.serial z ∷ l) (sym same);
          lies = cc lies;
          low = subst (λ (z : ℕ). z < k.owner.threads) (sym same) is.1;
          place = is.0;
          own = omega arith;
        }

-- the owner's view after a change of one view
owner_after : (views : List Log) (id : ℕ) (v w o : Log) → get_elem? views id ≡ some v → get_elem? views 0 ≡ some o → w.given ≡ v.given → w.threads ≡ v.threads → (most : ℕ) → w.gone ≤ max v.gone most
    → (u : Log) × (get_elem? (set views id w) 0 ≡ some u) × (u.given ≡ o.given) × (u.threads ≡ o.threads) × (u.gone ≤ max o.gone most)
owner_after [] id v w o at first same same' most gone = absurd (some-ne-none v (sym at))
owner_after (x ∷ xs) zero v w o at first same same' most gone =
    let e = some-injective v o (sym at ∙ first) in (w, refl, same ∙ ap (λ (z : Log). z.given) e, same' ∙ ap (λ (z : Log). z.threads) e, subst (λ (z : Log). w.gone ≤ max z.gone most) e gone)
owner_after (x ∷ xs) (suc id) v w o at first same same' most gone = (o, first, refl, refl, omega arith)

-- the first offer leaves: its taker's view is then w
leaves : (t : ℕ) (tasks : List ℕ) (views : List Log) (id : ℕ) (v w : Log) (k : KeptDeque (t ∷ tasks) views) (h : Taken t tasks views k) → get_elem? views id ≡ some v → w.given ≡ v.given → w.threads ≡ v.threads
    → w.gone ≤ max v.gone (h.serial + 1) → w.taken ≡ v.taken ++ offer h.serial t ∷ [] → KeptDeque tasks (set views id w)
leaves t tasks views id v w k h at same same' gone more =
    let x : Offer = offer h.serial t in
    let own = owner_after views id v w k.owner at k.first same same' (h.serial + 1) gone in
    record {
      owner = own.0;
      left = k.left ++ x ∷ [];
      rest = h.rest;
      first = own.1;
      others = others_set views id v w at (λ ne. same) k.others;
      threads = all_set (λ z. z.threads ≡ own.0.threads) views id w (same' ∙ (k.threads id v at ∙ sym own.3)) (λ j u e. k.threads j u e ∙ sym own.3);
      sole = λ z. length-set views id w ∙ k.sole (sym own.3 ∙ z);
      offers = subst (λ (z : ℕ × List Offer). AreOffers z.0 z.1) (λ i. (sym own.3 i, sym own.2 i)) k.offers;
      split = own.2 ∙ (k.split ∙ (ap (λ (l : List Offer). k.left ++ l) h.is ∙ sym (append_assoc k.left (x ∷ []) h.rest)));
      lies = h.lies;
      taken = λ f. let a = total_set (λ z. sum_by f z.taken) views id v w at in
          let b = k.taken f in
          let c : sum_by f w.taken ≡ sum_by f v.taken + sum_by f (x ∷ []) = ap (sum_by f) more ∙ sum_by-append f v.taken (x ∷ []) in
          let d = sum_by-append f k.left (x ∷ []) in omega arith;
      gone =
          let a = own.4 in
          let b = k.gone in
          let c = length-append k.left (x ∷ []) in
          let d : length (x ∷ []) ≡ 1 = refl in
          let e = h.place in
          let m : max k.owner.gone (h.serial + 1) ≤ length k.left + 1 = max-le (omega arith) (omega arith) in omega arith;
    }

pub takes : (id : ℕ) (v : Log) → Takes KeptDeque id v 1 (took v)
takes id v [] tasks views some_there few k at = absurd (omega arith)
takes id v (t ∷ []) tasks views some_there few k at =
    let h = first_of t tasks views k in
    let w : Log = record v { taken = v.taken ++ offer h.serial t ∷ [] } in (
      w,
      leaves t tasks views id v w k h at refl refl (omega arith) refl,
      record { serial = h.serial; thread = subst (λ (n : ℕ). t < n) (sym (k.threads id v at)) h.low; now = refl },
    )
takes id v (t ∷ u ∷ ts) tasks views some_there few k at = absurd (omega arith)

pub pops : (v : Log) → Takes KeptDeque 0 v 1 (popped v)
pops v [] tasks views some_there few k at = absurd (omega arith)
pops v (t ∷ []) tasks views some_there few k at =
    let h = first_of t tasks views k in
    let own : k.owner ≡ v = some-injective k.owner v (sym k.first ∙ at) in
    let w : Log = record v { taken = v.taken ++ offer h.serial t ∷ []; gone = max v.gone (h.serial + 1) } in (
      w,
      leaves t tasks views 0 v w k h at refl refl (omega arith) refl,
      record { serial = h.serial; own = subst (λ (z : Log). h.serial < length z.given) own h.own; thread = subst (λ (z : Log). t < z.threads) own h.low; now = refl },
    )
pops v (t ∷ u ∷ ts) tasks views some_there few k at = absurd (omega arith)

pub finds : (v : Log) → Finds KeptDeque 0 v (found_empty v)
finds v views k at = record { views = views; owner = v; rule = k; first = at; same = (refl, refl, refl) }
