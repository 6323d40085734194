-- Files that are written word by word.
use Rattle.std.proofs.Common.{◌≡◌, ℕ, List, [], ◌++◌, sym, ap, ◌∙◌, append_assoc}
use Rattle.std.specs.List.{flat_map}
use Rattle.std.proofs.lemmas.List.Concat.{flat_map-append}
use Rattle.tc_build.specs.Build.{word_bytes}

-- three lists of words, one after another
pub three_more : (file a b c xs ys zs : List ℕ) → a ≡ file ++ flat_map word_bytes xs → b ≡ a ++ flat_map word_bytes ys → c ≡ b ++ flat_map word_bytes zs → c ≡ file ++ flat_map word_bytes (xs ++ ys ++ zs)
three_more file a b c xs ys zs first second third =
    third ∙ ap (λ t. t ++ flat_map word_bytes zs) (second ∙ ap (λ t. t ++ flat_map word_bytes ys) first)
    ∙ ap (λ t. t ++ flat_map word_bytes zs) (append_assoc file (flat_map word_bytes xs) (flat_map word_bytes ys) ∙ ap (λ t. file ++ t) (sym (flat_map-append word_bytes xs ys)))
    ∙ append_assoc file (flat_map word_bytes (xs ++ ys)) (flat_map word_bytes zs)
    ∙ ap (λ t. file ++ t) (sym (flat_map-append word_bytes (xs ++ ys) zs))

-- five lists of bytes, one after another, from nothing on
pub five_more : (start a b c d e header segments note code fill : List ℕ) → start ≡ [] → a ≡ start ++ header → b ≡ a ++ segments → c ≡ b ++ note → d ≡ c ++ code → e ≡ d ++ fill → e ≡ header ++ segments ++ note ++ code ++ fill
five_more start a b c d e header segments note code fill none first second third fourth fifth =
    fifth ∙ ap (λ t. t ++ fill) (fourth ∙ ap (λ t. t ++ code) (third ∙ ap (λ t. t ++ note) (second ∙ ap (λ t. t ++ segments) (first ∙ ap (λ t. t ++ header) none))))
