-- Lists by place: an item that is written, and a list that a loop makes.
use Rattle.std.proofs.Common.{◌≡◌, ◌≢◌, ◌⊎◌, ℕ, zero, suc, ◌<◌, ◌≤◌, ◌==◌, List, [], ◌∷◌, set, length, get_or, refl, sym, ap, ◌∙◌, arith, inl, inr, ⊎_elim}
use Rattle.std.specs.Prelude.{slice_get, map, Some, None, if◌then◌else◌}
use Rattle.std.specs.List.{range_with_len}
use Rattle.std.proofs.lemmas.Bool.Decides.{eqb_tells}
use Rattle.std.proofs.lemmas.List.{get_or-set_same, get_or-set_other}
use mathlib.Core.Option.{some, some-injective, some-ne-none}
use lib.ListN.{get_elem?}
use Rattle.std.proofs.lemmas.List.FromFn.{length-map-range_with_len, get_or-map-range_with_len}
use Rattle.std.proofs.lemmas.Option.{slice_get-get_or, slice_get_past}
use Rattle.tc_journal.proofs.Lists.{get-set_same, get-set_other}
use Rattle.tc_lemmas.proofs.Lists.{something_at}

-- the item at each place
pub get-set : {A : Type 0} (xs : List A) (i k : ℕ) (x : A) → i < length xs → slice_get (set xs i x) k ≡ (if k == i then Some x else slice_get xs k)
get-set xs i k x lt = elim (eqb_tells k i) [
  | inl e ↦ ap (slice_get (set xs i x)) e.1 ∙ get-set_same xs i x lt ∙ ap (λ b. if b then Some x else slice_get xs k) (sym e.0)
  | inr e ↦ get-set_other xs i k x e.1 ∙ ap (λ b. if b then Some x else slice_get xs k) (sym e.0)
]

pub get_or-set : {A : Type 0} (xs : List A) (i k : ℕ) (x d : A) → i < length xs → get_or (set xs i x) k d ≡ (if k == i then x else get_or xs k d)
get_or-set xs i k x d lt = elim (eqb_tells k i) [
  | inl e ↦ ap (λ j. get_or (set xs i x) j d) e.1 ∙ get_or-set_same xs i x d lt ∙ ap (λ b. if b then x else get_or xs k d) (sym e.0)
  | inr e ↦ get_or-set_other xs i k x d e.1 ∙ ap (λ b. if b then x else get_or xs k d) (sym e.0)
]

-- a list that a loop made, item by item
pub made_get : {A : Type 0} (f : ℕ → A) (n k : ℕ) (d : A) → k < n → slice_get (map f (range_with_len 0 n)) k ≡ Some (f k)
made_get f n k d lt =
    slice_get-get_or (map f (range_with_len 0 n)) k d (let e = length-map-range_with_len f 0 n in omega arith)
    ∙ ap Some (get_or-map-range_with_len f 0 n k k d lt (omega arith))

pub made_past : {A : Type 0} (f : ℕ → A) (n k : ℕ) → n ≤ k → slice_get (map f (range_with_len 0 n)) k ≡ None
made_past f n k le = slice_get_past (map f (range_with_len 0 n)) k (let e = length-map-range_with_len f 0 n in omega arith)

-- ---- lists by number

module _ {A : Type 0} where
  pub there : (l : List A) (i : ℕ) (a d : A) → get_elem? l i ≡ some a → (i < length l) × (get_or l i d ≡ a)
  there [] i a d e = absurd (some-ne-none a (sym e))
  there (x ∷ xs) zero a d e = (omega arith, some-injective x a e)
  there (x ∷ xs) (suc i) a d e = (let r = there xs i a d e in (omega arith, r.1))

  pub set_at : (l : List A) (i j : ℕ) (a b : A) → get_elem? (set l i a) j ≡ some b → ((j ≡ i) × (a ≡ b)) ⊎ ((j ≢ i) × (get_elem? l j ≡ some b))
  set_at [] i j a b e = absurd (some-ne-none b (sym e))
  set_at (x ∷ xs) zero zero a b e = inl (refl, some-injective a b e)
  set_at (x ∷ xs) zero (suc j) a b e = inr ((λ h. omega arith), e)
  set_at (x ∷ xs) (suc i) zero a b e = inr ((λ h. omega arith), e)
  set_at (x ∷ xs) (suc i) (suc j) a b e = ⊎_elim (λ t. inl (ap suc t.0, t.1)) (λ t. let n = t.0 in inr ((λ h. n (omega arith)), t.1)) (set_at xs i j a b e)

  pub same_list : (xs ys : List A) → ((i : ℕ) (a : A) → get_elem? xs i ≡ some a → get_elem? ys i ≡ some a) → ((i : ℕ) (a : A) → get_elem? ys i ≡ some a → get_elem? xs i ≡ some a) → xs ≡ ys
  same_list [] [] f g = refl
  same_list [] (y ∷ ys) f g = absurd (some-ne-none y (sym (g 0 y refl)))
  same_list (x ∷ xs) [] f g = absurd (some-ne-none x (sym (f 0 x refl)))
  same_list (x ∷ xs) (y ∷ ys) f g =
      let head : y ≡ x = some-injective y x (f 0 x refl) in
      let tail = same_list xs ys (λ i a e. f (suc i) a e) (λ i a e. g (suc i) a e) in
      cc (head, tail)
