-- A table of places, and the image that it belongs to.
use Rattle.std.specs.Prelude.{◌≡◌, ℕ, ◌+◌, ◌-◌, ◌<◌, ◌≤◌, ◌^◌, Bool, false, not, ◌&&◌, ◌||◌, All, List}
use Rattle.std.specs.List.{list_any}
use Rattle.tc_elf.specs.Kept.{IsImage}
use Rattle.tc_elf.specs.Places.{lies_in, meets, region_of, stack_start, stack_length}
use Rattle.tc_elf.specs.Shown.{Shown, Range, Guard}
use Rattle.tc_elf.specs.declared.image.Region.{Region}
use Rattle.tc_elf.specs.declared.places.AddressRange.{AddressRange}

-- the m addresses from b on have some of the n from a on, but not all
abbrev pub cuts : ℕ → ℕ → ℕ → ℕ → Bool
cuts a n b m = meets a n b m && not (lies_in a n b m)

abbrev pub range_cuts : ℕ → ℕ → Range → Bool
range_cuts start n r = cuts start n r.start r.length

abbrev pub guard_cuts : ℕ → ℕ → Guard → Bool
guard_cuts start n g = cuts start n g.start g.length

-- a range, a guard or the stack has some of these addresses, but not all
abbrev pub is_cut : Shown → ℕ → ℕ → Bool
is_cut image start n =
    list_any (range_cuts start n) image.ranges || list_any (guard_cuts start n) image.guards || cuts start n stack_start stack_length

-- each access of these addresses has this place
abbrev pub IsWithin : Shown → ℕ → ℕ → Region → Type 0
IsWithin image start end region =
    (addr width : ℕ) → 0 < width → start ≤ addr → addr + width ≤ end → region_of image addr width ≡ region

abbrev pub PlacesTell : Shown → List AddressRange → Type 0
PlacesTell image places = All (λ p. IsWithin image p.start p.end p.region) places

-- some addresses, but not all 2^32, that no edge cuts
pub record IsPiece (image : Shown) (p : AddressRange) : Type 0 where
  pub some : p.start < p.end
  pub short : p.end < p.start + 2 ^ 32
  pub fits : p.end ≤ 2 ^ 32
  pub whole : is_cut image p.start (p.end - p.start) ≡ false

-- an image with its table
pub record IsTabled (image : Shown) (places : List AddressRange) : Type 0 where
  pub is_image : IsImage image
  pub tells : PlacesTell image places
  pub pieces : All (IsPiece image) places
