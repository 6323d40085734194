-- Code that is put together piece by piece.
use Rattle.std.proofs.Common.{◌≡◌, ℕ, zero, suc, ◌+◌, List, [], ◌∷◌, ◌++◌, length, sym, ap, ◌∙◌, arith, add-one, append_assoc}
use Rattle.std.specs.List.{flat_map, range_with_len}
use Rattle.std.proofs.lemmas.List.{append-nil, map-append, length-map}
use Rattle.std.proofs.lemmas.List.Concat.{flat_map-append}
use Rattle.tc_isa.proofs.SetLemmas.{range_more}
use Rattle.tc_isa.specs.Rows.{encoded}
use Rattle.tc_isa.specs.declared.instr.Instr.{Instr}
use Rattle.tc_build.specs.Code.{words_of, Adds}

pub words_of-append : (xs ys : List Instr) → words_of (xs ++ ys) ≡ words_of xs ++ words_of ys
unfolding words_of
words_of-append xs ys = map-append encoded xs ys

pub length-words_of : (xs : List Instr) → length (words_of xs) ≡ length xs
unfolding words_of
length-words_of xs = length-map xs encoded

-- code behind code
pub both : (a b c : List ℕ) (xs ys : List Instr) → Adds a b xs → Adds b c ys → Adds a c (xs ++ ys)
both a b c xs ys first second =
    second ∙ (ap (λ t. t ++ words_of ys) first ∙ (append_assoc a (words_of xs) (words_of ys) ∙ ap (λ t. a ++ t) (sym (words_of-append xs ys))))

-- what is made of the numbers below n + 1
pub flat_more : {X : Type 0} (f : ℕ → List X) (n : ℕ) → flat_map f (range_with_len 0 (n + 1)) ≡ flat_map f (range_with_len 0 n) ++ f n
flat_more f n =
    ap (λ k. flat_map f (range_with_len 0 k)) (add-one n)
    ∙ (ap (λ xs. flat_map f xs) (range_more 0 n n (omega arith))
    ∙ (flat_map-append f (range_with_len 0 n) (n ∷ []) ∙ ap (λ t. flat_map f (range_with_len 0 n) ++ t) (append-nil (f n))))
