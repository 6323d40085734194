-- What is said of a list chunk by chunk.
use Rattle.std.proofs.Common.{◌≡◌, ℕ, ◌-◌, min, List, [], length, length-drop, take, drop, sym, ap, ◌∙◌, inl, inr, arith}
use Rattle.std.proofs.lemmas.List.{drop_all, take_all}
use Rattle.std.proofs.lemmas.Bool.{cases_lt}

-- a chunk that is cut at the end of the list
short : {X : Type 0} (size count : ℕ) (xs : List X) → count ≡ min size (length xs) → take count xs ≡ take size xs
short size count xs e = elim (cases_lt size (length xs)) [
  | inl low ↦ ap (λ k. take k xs) (let same : count ≡ size = omega (arith, low, e) in same)
  | inr high ↦ take_all count xs (omega (arith, high, e)) ∙ sym (take_all size xs high)
]

pub one_chunk : {X : Type 0} (size place from count : ℕ) (xs : List X) → from ≡ min place (length xs) → count ≡ min size (length xs - from) → take count (drop from xs) ≡ take size (drop place xs)
one_chunk size place from count xs f c = elim (cases_lt place (length xs)) [
  | inl low ↦
      let same : from ≡ place = omega (arith, low, f) in
      short size count (drop from xs) (omega (arith, length-drop from xs, c)) ∙ ap (λ k. take size (drop k xs)) same
  | inr high ↦
      ap (take count) (drop_all from xs (omega (arith, high, f))) ∙ take_all count [] (omega arith)
      ∙ sym (ap (take size) (drop_all place xs high) ∙ take_all size [] (omega arith))
]
