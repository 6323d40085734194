-- The members of a crew as they are made.
use Rattle.std.proofs.Common.{◌≡◌, ℕ, zero, suc, ◌+◌, ◌<◌, ◌⊎◌, List, [], ◌∷◌, ◌++◌, All, length, map, get_or, slice_get, Some, refl, sym, ap, ◌∙◌, subst, ⊎_elim, inl, inr, append_assoc, length-append, arith}
use Rattle.std.proofs.lemmas.List.{length-map, get_or-map}
use Rattle.tc_ready.specs.EndView.{OwnView, OtherView, IsNew, IsEndFor, new_end}
use Rattle.tc_ready.specs.ReadyView.{ReadyView, AreCrew, deque_of, taken_of, member, no_offers}
use Rattle.tc_ready.specs.Crew.{own_deque, AreMade}

deques : (os : List OwnView) → map deque_of (map new_end os) ≡ map own_deque os
deques [] = refl
deques (o ∷ os) = ap (λ (l : List (ℕ × ℕ)). o.deque ∷ l) (deques os)

takens : (os : List OwnView) → map taken_of (map new_end os) ≡ map no_offers (map own_deque os)
takens [] = refl
takens (o ∷ os) = ap (λ l. [] ∷ l) (takens os)

at_seam : (ys zs : List OwnView) (o : OwnView) → slice_get (map own_deque (ys ++ o ∷ zs)) (length ys) ≡ Some o.deque
at_seam [] zs o = refl
at_seam (y ∷ ys) zs o = at_seam ys zs o

get_seam : {X : Type 0} (ys zs : List X) (o d : X) → get_or (ys ++ o ∷ zs) (length ys) d ≡ o
get_seam [] zs o d = refl
get_seam (y ∷ ys) zs o d = get_seam ys zs o d

all_seam : {X : Type 0} (P : X → Type 0) (ys zs : List X) (o : X) → All P (ys ++ o ∷ zs) → P o
all_seam P ys zs o h = subst P (get_seam ys zs o o) (h (length ys) o (let l = length-append ys (o ∷ zs) in let m : length (o ∷ zs) ≡ suc (length zs) = refl in omega arith))

pub last_all : {X : Type 0} (P : X → Type 0) (xs ys : List X) (x : X) → ys ≡ xs ++ x ∷ [] → All P ys → P x
last_all P xs ys x e h = all_seam P xs [] x (subst (All P) e h)

pub one_less : {X Y : Type 0} (xs xs' : List X) (x : X) (ys ys' : List Y) (y : Y) → length xs ≡ length ys → xs ≡ xs' ++ x ∷ [] → ys ≡ y ∷ ys' → length xs' ≡ length ys'
one_less xs xs' x ys ys' y same e f = let a = ap length e ∙ length-append xs' (x ∷ []) in let b : length (x ∷ []) ≡ 1 = refl in let c : length ys ≡ suc (length ys') = ap length f in omega arith

pub member_fits : (threads room number : ℕ) (os yielded rest : List OwnView) (own : OwnView) (ends : List OtherView) → All (IsNew threads room) os → os ≡ yielded ++ own ∷ rest → length yielded ≡ number → ends ≡ map new_end os
    → (slice_get (map deque_of ends) number ≡ Some own.deque) × All (IsEndFor own.threads) ends
member_fits threads room number os yielded rest own ends new split count is =
    let o : IsNew threads room own = all_seam (IsNew threads room) yielded rest own (subst (All (IsNew threads room)) split new) in (
      ap (λ (l : List OtherView). slice_get (map deque_of l) number) is ∙ (ap (λ (l : List (ℕ × ℕ)). slice_get l number) (deques os) ∙ (ap (λ (l : List OwnView). slice_get (map own_deque l) number) split
          ∙ (ap (λ (n : ℕ). slice_get (map own_deque (yielded ++ own ∷ rest)) n) (sym count) ∙ at_seam yielded rest own))),
      λ k d deep. let few : k < length os = subst (λ (n : ℕ). k < n) (ap length is ∙ length-map os new_end) deep in
          ap (λ (l : List OtherView). (get_or l k d).threads) is ∙ (ap (λ (t : OtherView). t.threads) (get_or-map new_end os k own d few) ∙ ((new k own few).threads_is ∙ sym o.threads_is)),
    )

slice_last : {X : Type 0} (xs : List X) (x y : X) (i : ℕ) → slice_get (xs ++ x ∷ []) i ≡ Some y → (slice_get xs i ≡ Some y) ⊎ ((i ≡ length xs) × (x ≡ y))
slice_last [] x y zero e = inr (refl, some_same x y e)
  where
    some_same : {X : Type 0} (x y : X) → Some x ≡ Some y → x ≡ y
    some_same x y e = cc e
slice_last [] x y (suc i) e = absurd (cc e)
slice_last (z ∷ xs) x y zero e = inl e
slice_last (z ∷ xs) x y (suc i) e = ⊎_elim (λ h. inl h) (λ h. inr (ap suc h.0, h.1)) (slice_last xs x y i e)

view_of : OwnView → List OtherView → ℕ → ReadyView
view_of own ends number = record { number = number; threads = own.threads; room = own.room; crew = map deque_of ends; given = own.given; gone = own.gone; own = own.taken; stolen = map taken_of ends }

is_member : (threads room number : ℕ) (os : List OwnView) (own : OwnView) (ends : List OtherView) → IsNew threads room own → ends ≡ map new_end os
    → record { number = number; threads = own.threads; room = own.room; crew = map deque_of ends; given = own.given; gone = own.gone; own = own.taken; stolen = map taken_of ends } ≡ member threads room (map own_deque os) number
is_member threads room number os own ends o is =
    let crew = ap (λ (l : List OtherView). map deque_of l) is ∙ deques os in
    let stolen = ap (λ (l : List OtherView). map taken_of l) is ∙ takens os in
    λ i. record { number = number; threads = o.threads_is i; room = o.room_is i; crew = crew i; given = o.given i; gone = o.gone i; own = o.taken i; stolen = stolen i }

pub made_more : (threads room number : ℕ) (os yielded rest rest' : List OwnView) (own : OwnView) (ends : List OtherView) (rs rs' : List ReadyView) → All (IsNew threads room) os → AreMade threads room os yielded rest number rs
    → rest ≡ own ∷ rest' → ends ≡ map new_end os
    → rs' ≡ rs ++ record { number = number; threads = own.threads; room = own.room; crew = map deque_of ends; given = own.given; gone = own.gone; own = own.taken; stolen = map taken_of ends } ∷ []
    → AreMade threads room os (yielded ++ own ∷ []) rest' (number + 1) rs'
made_more threads room number os yielded rest rest' own ends rs rs' new m next is more =
    let split : os ≡ yielded ++ own ∷ rest' = m.owners ∙ ap (λ (l : List OwnView). yielded ++ l) next in
    let o : IsNew threads room own = all_seam (IsNew threads room) yielded rest' own (subst (All (IsNew threads room)) split new) in
    let one = is_member threads room number os own ends o is in record {
      owners = split ∙ sym (append_assoc yielded (own ∷ []) rest');
      number_is = let a = length-append yielded (own ∷ []) in let b : length (own ∷ []) ≡ 1 = refl in let d = m.number_is in omega arith;
      count = let a = ap length more ∙ length-append rs _ in let d = m.count in omega arith;
      each = λ i r e. ⊎_elim (λ h. m.each i r h) (λ h. sym h.1 ∙ (one ∙ ap (λ (k : ℕ). member threads room (map own_deque os) k) (let c = m.count in let a = h.0 in omega arith))) (slice_last rs _ r i (ap (λ (l : List ReadyView). slice_get l i) (sym more) ∙ e));
    }

pub all_made : (threads room number : ℕ) (os yielded rest : List OwnView) (rs : List ReadyView) → AreMade threads room os yielded rest number rs → length rest ≡ 0 → AreCrew (length os) threads room rs
all_made threads room number os yielded rest rs m none = record {
  crew = map own_deque os;
  count = (
    (let a = ap length m.owners ∙ length-append yielded rest in let b = none in let c = m.count in let d = m.number_is in omega arith),
    length-map os own_deque,
  );
  each = m.each;
}
