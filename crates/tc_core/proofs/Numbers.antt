-- A line has each thread once, so it is no longer than there are threads.
use Rattle.std.proofs.Common.{◌≡◌, ℕ, ◌+◌, ◌<◌, true, false, ◌==◌, List, [], ◌∷◌, ◌++◌, length, refl, arith, inl, inr}
use Rattle.std.specs.Prelude.{nat_eq}
use Rattle.std.specs.List.{list_any, IsDistinct, AllByRecursion}
use Rattle.std.proofs.lemmas.Bool.{or_parts}
use Rattle.std.proofs.lemmas.Bool.Decides.{eqb_tells}
use Rattle.std.proofs.lemmas.Map.Steps.{length-le_from_distinct_below}
use Rattle.tc_core.specs.Lines.{is_in_line, rest_of}
use Rattle.tc_core.specs.View.{AreBelow, IsLine}

member_below : (n : ℕ) (line : List ℕ) → AreBelow n line → (q : ℕ) → list_any (nat_eq q) line ≡ true → q < n
member_below n [] below q e = absurd (cc)
member_below n (u ∷ us) below q e = elim (eqb_tells q u) [
  | inl h ↦ (let l = below.0 in let s = h.1 in omega arith)
  | inr h ↦ member_below n us below.1 q (rw h.0 at e)
]

below_more : (n t : ℕ) (line : List ℕ) → AreBelow n line → t < n → AreBelow n (line ++ t ∷ [])
below_more n t [] below lt = (lt, tt)
below_more n t (u ∷ us) below lt = (below.0, below_more n t us below.1 lt)

differ_more : (u t : ℕ) (us : List ℕ) → AllByRecursion (λ y. nat_eq u y ≡ false) us → (u == t) ≡ false → AllByRecursion (λ y. nat_eq u y ≡ false) (us ++ t ∷ [])
differ_more u t [] all ne = (ne, tt)
differ_more u t (v ∷ vs) all ne = (all.0, differ_more u t vs all.1 ne)

once_more : (t : ℕ) (line : List ℕ) → IsDistinct nat_eq line → is_in_line line t ≡ false → IsDistinct nat_eq (line ++ t ∷ [])
unfolding IsDistinct
once_more t [] once out = (tt, tt)
once_more t (u ∷ us) once out = (let p = or_parts (u == t) (is_in_line us t) out in (differ_more u t us once.0 p.0, once_more t us once.1 p.1))

pub line_more : (n t : ℕ) (line : List ℕ) → IsLine n line → t < n → is_in_line line t ≡ false → IsLine n (line ++ t ∷ [])
line_more n t line is lt out = record { below = below_more n t line is.below lt; once = once_more t line is.once out }

pub line_rest : (n : ℕ) (line : List ℕ) → IsLine n line → IsLine n (rest_of line)
unfolding IsDistinct
line_rest n [] is = is
line_rest n (u ∷ us) is = (let b = is.below in let o = is.once in record { below = b.1; once = o.1 })

pub line_none : (n : ℕ) → IsLine n []
unfolding IsDistinct
line_none n = record { below = tt; once = tt }

length_more : (xs : List ℕ) (t : ℕ) → length (xs ++ t ∷ []) ≡ length xs + 1
length_more [] t = refl
length_more (x ∷ xs) t = (let e = length_more xs t in omega arith)

-- room for one that is not in it
pub line_room : (n t : ℕ) (line : List ℕ) → IsLine n line → t < n → is_in_line line t ≡ false → length line < n
line_room n t line is lt out =
    let more = line_more n t line is lt out in
    let le = length-le_from_distinct_below (line ++ t ∷ []) n more.once (member_below n (line ++ t ∷ []) more.below) in
    let e = length_more line t in
    omega arith
