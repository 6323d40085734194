-- The place of all accesses of addresses that nothing cuts.
use Rattle.std.proofs.Common.{◌≡◌, ℕ, suc, ◌+◌, ◌-◌, ◌<◌, ◌≤◌, ◌^◌, Bool, true, false, ◌&&◌, ◌||◌, not, List, [], ◌∷◌, ◌++◌, length, get_or, All, refl, sym, ap, ◌∙◌, arith}
use Rattle.std.specs.Prelude.{Some, None, nat_lt, if◌then◌else◌}
use Rattle.std.specs.List.{list_any, position_or_len}
use Rattle.std.specs.Option.{option_map_or}
use Rattle.std.proofs.lemmas.Bool.{and_parts, or_parts}
use Rattle.std.proofs.lemmas.Bool.Decides.{nat_tests}
use Rattle.std.proofs.lemmas.List.Folds.{list_any_none}
use Rattle.std.proofs.lemmas.List.Elements.{All-push}
use Rattle.tc_elf.specs.Kept.{IsRange}
use Rattle.tc_elf.specs.Places.{lies_in, meets, in_text, in_writable, in_guard, touches, own_region, region_of, stack_start, stack_length}
use Rattle.tc_elf.specs.Shown.{Shown, Range}
use Rattle.tc_elf.specs.Table.{cuts, range_cuts, guard_cuts, is_cut, IsPiece, IsWithin, PlacesTell}
use Rattle.tc_elf.specs.declared.image.Region.TheVariants as region
use Rattle.tc_elf.specs.declared.places.AddressRange.{AddressRange}

-- ---- accesses of addresses that nothing cuts: what has one of them has all

in_same : (a n b m addr width : ℕ) → cuts a n b m ≡ false → 0 < width → a ≤ addr → addr + width ≤ a + n → lies_in addr width b m ≡ lies_in a n b m
in_same a n b m addr width whole some low high = grind (arith, nat_tests, and_parts)

meets_same : (a n b m addr width : ℕ) → cuts a n b m ≡ false → 0 < width → a ≤ addr → addr + width ≤ a + n → meets addr width b m ≡ meets a n b m
meets_same a n b m addr width whole some low high = grind (arith, nat_tests, and_parts)

-- one address is not cut
cut_one : (a b m : ℕ) → cuts a 1 b m ≡ false
cut_one a b m = grind (arith, nat_tests)

pub one_whole : (image : Shown) (start : ℕ) → is_cut image start 1 ≡ false
one_whole image start =
    rw (
      list_any_none (range_cuts start 1) image.ranges (λ k d below. cut_one start (get_or image.ranges k d).start (get_or image.ranges k d).length),
      list_any_none (guard_cuts start 1) image.guards (λ k d below. cut_one start (get_or image.guards k d).start (get_or image.guards k d).length),
      cut_one start stack_start stack_length,
    ) refl

-- ---- two tests of lists whose elements pass both or none

any_same : {X : Type 0} (c p q : X → Bool) → ((x : X) → c x ≡ false → p x ≡ q x) → (xs : List X) → list_any c xs ≡ false → list_any p xs ≡ list_any q xs
any_same c p q same [] none = refl
any_same c p q same (x ∷ xs) none =
    let parts = or_parts (c x) (list_any c xs) none in
    rw (same x parts.0, any_same c p q same xs parts.1) refl

first_same : {X : Type 0} (c p q : X → Bool) → ((x : X) → c x ≡ false → p x ≡ q x) → (xs : List X) → list_any c xs ≡ false → position_or_len p xs ≡ position_or_len q xs
first_same c p q same [] none = refl
first_same c p q same (x ∷ xs) none =
    let parts = or_parts (c x) (list_any c xs) none in
    rw (same x parts.0, first_same c p q same xs parts.1) refl

-- ---- their place

-- what is known of addresses that nothing cuts
record Uncut (image : Shown) (start n : ℕ) : Type 0 where
  ranges : list_any (range_cuts start n) image.ranges ≡ false
  guards : list_any (guard_cuts start n) image.guards ≡ false
  stack : cuts start n stack_start stack_length ≡ false

uncut : (image : Shown) (start n : ℕ) → is_cut image start n ≡ false → Uncut image start n
uncut image start n whole =
    let parts = or_parts (list_any (range_cuts start n) image.ranges || list_any (guard_cuts start n) image.guards) (cuts start n stack_start stack_length) whole in
    let lists = or_parts (list_any (range_cuts start n) image.ranges) (list_any (guard_cuts start n) image.guards) parts.0 in
    record { ranges = lists.0; guards = lists.1; stack = parts.1 }

pub within : (image : Shown) (start n : ℕ) → is_cut image start n ≡ false → IsWithin image start (start + n) (region_of image start n)
unfolding region_of
within image start n whole addr width some low high =
    let u = uncut image start n whole in
    let gs = image.guards in
    let same_in : (b m : ℕ) → cuts start n b m ≡ false → lies_in addr width b m ≡ lies_in start n b m = λ b m e. in_same start n b m addr width e some low high in
    let first = first_same (guard_cuts start n) (in_guard addr width) (in_guard start n) (λ g e. same_in g.start g.length e) gs u.guards in
    let touched = any_same (guard_cuts start n) (touches addr width) (touches start n) (λ g e. meets_same start n g.start g.length addr width e some low high) gs u.guards in
    let text = any_same (range_cuts start n) (in_text addr width) (in_text start n) (λ r e. ap (λ b. not r.writable && b) (same_in r.start r.length e)) image.ranges u.ranges in
    let writable = any_same (range_cuts start n) (in_writable addr width) (in_writable start n) (λ r e. ap (λ b. r.writable && b) (same_in r.start r.length e)) image.ranges u.ranges in
    let stack = same_in stack_start stack_length u.stack in
    λ i. option_map_or region.Guard (if nat_lt (first i) (length gs) then Some (first i) else None)
    (if text i then region.Text else if writable i && not (touched i) then region.Private else if stack i then region.Stack else region.Nothing)

-- one more place
pub place_more : (image : Shown) (places : List AddressRange) (start n : ℕ) (p : AddressRange) → PlacesTell image places → is_cut image start n ≡ false → p.start ≡ start → p.end ≡ start + n
    → p.region ≡ region_of image start n → PlacesTell image (places ++ p ∷ [])
place_more image places start n p tells whole from to is =
    All-push (λ p. IsWithin image p.start p.end p.region) places p tells
    (λ addr width some low high. within image start n whole addr width some (omega arith) (omega arith) ∙ sym is)

-- a place of n addresses that nothing cuts
pub piece : (image : Shown) (start n : ℕ) (p : AddressRange) → 0 < n → start + n ≤ 2 ^ 32 → n < 2 ^ 32 → is_cut image start n ≡ false → p.start ≡ start → p.end ≡ start + n → IsPiece image p
piece image start n p some fits short whole from to =
    let count : p.end - p.start ≡ n = omega arith in
    record { some = omega arith; short = omega arith; fits = omega arith; whole = rw (count, from) whole }

-- ---- a thread's own memory

pub own_same : (image : Shown) (start n at : ℕ) → is_cut image start n ≡ false → 0 < n → start ≤ at → at < start + n → own_region image at ≡ own_region image start
own_same image start n at whole some low high =
    let u = uncut image start n whole in
    let same_in : (b m : ℕ) → cuts start n b m ≡ false → lies_in at 1 b m ≡ lies_in start 1 b m =
    λ b m e. in_same start n b m at 1 e (omega arith) low (omega arith) ∙ sym (in_same start n b m start 1 e (omega arith) (omega arith) (omega arith)) in
    let touched = any_same (guard_cuts start n) (touches at 1) (touches start 1)
    (λ g e. meets_same start n g.start g.length at 1 e (omega arith) low (omega arith) ∙ sym (meets_same start n g.start g.length start 1 e (omega arith) (omega arith) (omega arith))) image.guards u.guards in
    let writable = any_same (range_cuts start n) (in_writable at 1) (in_writable start 1) (λ r e. ap (λ b. r.writable && b) (same_in r.start r.length e)) image.ranges u.ranges in
    let stack = same_in stack_start stack_length u.stack in
    λ i. if touched i then region.Nothing else if writable i then region.Private else if stack i then region.Stack else region.Nothing

none_past : (rs : List Range) (at : ℕ) → All IsRange rs → 2 ^ 32 ≤ at → list_any (in_writable at 1) rs ≡ false
none_past [] at fit past = refl
none_past (r ∷ rs) at fit past =
    let fits = (fit 0 r (omega arith)).fits in
    let none : in_writable at 1 r ≡ false = grind (arith, nat_tests, and_parts) in
    rw (none, none_past rs at (λ k d below. fit (suc k) d (omega arith)) past) refl

pub own_past : (image : Shown) (at : ℕ) → All IsRange image.ranges → 2 ^ 32 ≤ at → own_region image at ≡ region.Nothing
own_past image at fit past =
    let stack : lies_in at 1 stack_start stack_length ≡ false = grind (arith, nat_tests, and_parts) in
    rw (none_past image.ranges at fit past, stack) (elim (list_any (touches at 1) image.guards) as (λ b. (if b then region.Nothing else region.Nothing) ≡ region.Nothing) [ true ↦ refl | false ↦ refl ])
