-- A range that is the first to have an address of several has each of them alone.
use Rattle.std.proofs.Common.{◌≡◌, ℕ, ◌+◌, ◌-◌, ◌<◌, ◌≤◌, true, false, List, [], ◌∷◌, take, drop, refl, sym, ap, ◌∙◌, arith}
use Rattle.std.specs.Prelude.{Some, find, slice_index, if◌then◌else◌}
use Rattle.std.specs.Option.{option_map}
use Rattle.std.proofs.lemmas.Bool.{and_parts}
use Rattle.std.proofs.lemmas.Bool.Decides.{nat_tests}
use Rattle.std.proofs.lemmas.List.{get_or-take, get_or-drop}
use Rattle.tc_elf.specs.Places.{in_range, touches_range, range_byte, byte_of}
use Rattle.tc_elf.specs.Shown.{Shown, Range}

-- a range that has no address of several has none of them
away : (r : Range) (start count at : ℕ) → touches_range start count r ≡ false → start ≤ at → at < start + count → in_range at 1 r ≡ false
away r start count at apart low high = grind (arith, nat_tests)

within : (r : Range) (start count at : ℕ) → in_range start count r ≡ true → start ≤ at → at < start + count → in_range at 1 r ≡ true
within r start count at inside low high = grind (arith, nat_tests, and_parts)

some_same : (r s : Range) → Some r ≡ Some s → r ≡ s
some_same r s e = cc

pub first_has : (rs : List Range) (r : Range) (start count at : ℕ) → find (touches_range start count) rs ≡ Some r → in_range start count r ≡ true → start ≤ at → at < start + count
    → find (in_range at 1) rs ≡ Some r
first_has [] r start count at found inside low high = absurd (cc)
first_has (x ∷ rs) r start count at found inside low high =
    (elim (touches_range start count x) as (λ b. touches_range start count x ≡ b → (if b then Some x else find (touches_range start count) rs) ≡ Some r → find (in_range at 1) (x ∷ rs) ≡ Some r) [
      | true ↦ λ is e. (let same : x ≡ r = some_same x r e in rw (within x start count at (ap (in_range start count) same ∙ inside) low high) (ap Some same))
      | false ↦ λ is e. rw (away x start count at is low high) (first_has rs r start count at e inside low high)
    ]) refl found

-- its bytes there
pub bytes_there : (image : Shown) (r : Range) (from start count skip i : ℕ) (bytes : List ℕ) → find (touches_range start count) image.ranges ≡ Some r → in_range start count r ≡ true → from ≡ r.start → bytes ≡ r.bytes
    → i < count → i < skip → byte_of image (start + i) ≡ Some (slice_index (take skip (drop (start - from) bytes)) i)
unfolding byte_of
bytes_there image r from start count skip i bytes found inside begins same below short =
    let low : r.start ≤ start = grind (arith, nat_tests, and_parts) in
    let place : start - from + i ≡ start + i - r.start = omega arith in
    ap (option_map (λ r. range_byte r (start + i))) (first_has image.ranges r start count (start + i) found inside (omega arith) (omega arith))
    ∙ ap Some (sym (get_or-take skip (drop (start - from) bytes) i 0 short
    ∙ get_or-drop (start - from) bytes i 0 ∙ ap (λ k. slice_index bytes k) place ∙ ap (λ bs. slice_index bs (start + i - r.start)) same))
