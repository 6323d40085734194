-- Texts that go over lists whose elements are numbered.
use Rattle.std.proofs.Common.{◌≡◌, ℕ, ◌+◌, ◌<◌, List, [], ◌∷◌, ◌++◌, length, take, get_or, sym, ap, ◌∙◌, append_assoc, append-nil, length-take-le, arith}
use Rattle.std.specs.List.{enumerate_from, flat_map}
use Rattle.std.proofs.lemmas.List.Concat.{flat_map-append}
use Rattle.std.proofs.lemmas.List.{take_more}

enumerate_from-append : {X : Type 0} (n : ℕ) (xs ys : List X) → enumerate_from n (xs ++ ys) ≡ enumerate_from n xs ++ enumerate_from (n + length xs) ys
enumerate_from-append n [] ys = ap (λ k. enumerate_from k ys) (omega arith)
enumerate_from-append n (x ∷ xs) ys =
    ap (λ t. (n, x) ∷ t) (enumerate_from-append (n + 1) xs ys
    ∙ ap (λ k. enumerate_from (n + 1) xs ++ enumerate_from k ys) (omega arith))

enumerate_from-take : {X : Type 0} (n : ℕ) (xs : List X) (i j : ℕ) (x : X) → i < length xs → n + i ≡ j → x ≡ get_or xs i x → enumerate_from n (take (i + 1) xs) ≡ enumerate_from n (take i xs) ++ (j, x) ∷ []
enumerate_from-take n xs i j x low e is =
    ap (enumerate_from n) (take_more xs i x low ∙ ap (λ y. take i xs ++ y ∷ []) (sym is))
    ∙ enumerate_from-append n (take i xs) (x ∷ [])
    ∙ ap (λ k. enumerate_from n (take i xs) ++ (k, x) ∷ []) (ap (λ k. n + k) (length-take-le i xs (omega arith)) ∙ e)

-- a text that goes over numbered elements, and the next one
pub numbered_more : {X : Type 0} (f : ℕ × X → List ℕ) (before now next : List ℕ) (n : ℕ) (xs : List X) (i j : ℕ) (x : X) → i < length xs → n + i ≡ j → x ≡ get_or xs i x → now ≡ before ++ flat_map f (enumerate_from n (take i xs)) → next ≡ now ++ f (j, x) → next ≡ before ++ flat_map f (enumerate_from n (take (i + 1) xs))
numbered_more f before now next n xs i j x low e is so more =
    more ∙ ap (λ t. t ++ f (j, x)) so ∙ append_assoc before _ (f (j, x))
    ∙ ap (λ t. before ++ t) (sym (ap (flat_map f) (enumerate_from-take n xs i j x low e is)
    ∙ flat_map-append f (enumerate_from n (take i xs)) ((j, x) ∷ [])
    ∙ ap (λ t. flat_map f (enumerate_from n (take i xs)) ++ t) (append-nil (f (j, x)))))
