-- Which place holds the bytes of an access.
use Rattle.std.specs.Prelude.{ℕ, ◌+◌, ◌-◌, nat_lt, nat_le, not, ◌&&◌, if◌then◌else◌, Bool, Option, drop, find, position, slice_index}
use Rattle.std.specs.List.{list_any}
use Rattle.std.specs.Option.{option_map, option_map_or}
use Rattle.byteorder.specs.Endian.{little_number}
use Rattle.tc_elf.specs.Shown.{Shown, Range, Guard}
use Rattle.tc_elf.specs.declared.image.Region.{Region}
use Rattle.tc_elf.specs.declared.image.Region.TheVariants as region

-- all bytes of an access lie in the addresses of this start and length
abbrev pub lies_in : ℕ → ℕ → ℕ → ℕ → Bool
lies_in addr width start length = nat_le start addr && nat_le (addr + width) (start + length)

-- two ranges of addresses, by start and length, overlap
abbrev pub meets : ℕ → ℕ → ℕ → ℕ → Bool
meets a n b m = nat_lt a (b + m) && nat_lt b (a + n)

-- each thread has a stack of its own, from 0x7fffc000 to 0x7fffffff
abbrev pub stack_start : ℕ
stack_start = 0x7fffc000

abbrev pub stack_length : ℕ
stack_length = 0x4000

abbrev pub in_range : ℕ → ℕ → Range → Bool
in_range addr width r = lies_in addr width r.start r.length

abbrev pub touches_range : ℕ → ℕ → Range → Bool
touches_range addr width r = meets addr width r.start r.length

abbrev pub in_text : ℕ → ℕ → Range → Bool
in_text addr width r = not r.writable && in_range addr width r

abbrev pub in_writable : ℕ → ℕ → Range → Bool
in_writable addr width r = r.writable && in_range addr width r

abbrev pub in_code : ℕ → ℕ → Range → Bool
in_code addr width r = r.executable && in_range addr width r

abbrev pub in_guard : ℕ → ℕ → Guard → Bool
in_guard addr width g = lies_in addr width g.start g.length

abbrev pub touches : ℕ → ℕ → Guard → Bool
touches addr width g = meets addr width g.start g.length

-- in a writable range, and with no byte in a guard
abbrev pub is_private : Shown → ℕ → ℕ → Bool
is_private image addr width =
    list_any (in_writable addr width) image.ranges && not (list_any (touches addr width) image.guards)

-- the place of an access that no guard holds
abbrev pub unguarded_region : Shown → ℕ → ℕ → Region
unguarded_region image addr width =
    if list_any (in_text addr width) image.ranges then region.Text
    else if is_private image addr width then region.Private
    else if lies_in addr width stack_start stack_length then region.Stack
    else region.Nothing

-- the place of an access: the first guard that holds all its bytes, else a range or the stack
unfoldable pub region_of : Shown → ℕ → ℕ → Region
region_of image addr width =
    option_map_or region.Guard (position (in_guard addr width) image.guards) (unguarded_region image addr width)

-- the place of an address in a thread's own memory; Nothing if that doesn't have it
abbrev pub own_region : Shown → ℕ → Region
own_region image at =
    if list_any (touches at 1) image.guards then region.Nothing
    else if list_any (in_writable at 1) image.ranges then region.Private
    else if lies_in at 1 stack_start stack_length then region.Stack
    else region.Nothing

-- the little-endian number of the four bytes from an address on
abbrev pub range_word : Range → ℕ → ℕ
range_word r addr = little_number 4 (drop (addr - r.start) r.bytes)

-- the word of an instruction, if its four bytes lie in one executable range
unfoldable pub fetched : Shown → ℕ → Option ℕ
fetched image pc = option_map (λ r. range_word r pc) (find (in_code pc 4) image.ranges)

abbrev pub range_byte : Range → ℕ → ℕ
range_byte r addr = slice_index r.bytes (addr - r.start)

-- the initial byte of a range; None if and only if no range has the address
unfoldable pub byte_of : Shown → ℕ → Option ℕ
byte_of image addr = option_map (λ r. range_byte r addr) (find (in_range addr 1) image.ranges)
