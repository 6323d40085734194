-- Bytes at addresses: a thread's own memory, and the guards of locks.
use Rattle.std.specs.Prelude.{ℕ, zero, suc, ◌^◌, ◌≤◌, ◌+◌, ◌-◌, ◌*◌, ◌/◌, ◌%◌, ◌==◌, nat_le, if◌then◌else◌, List, [], ◌∷◌, map, replicate, slice_get, slice_set, Option, Some, None, unwrap_or}
use Rattle.std.specs.List.{list_any, range_with_len}
use Rattle.std.specs.Option.{option_map, option_or}
use Rattle.tc_elf.specs.Shown.{Shown, Range}
use Rattle.tc_elf.specs.declared.image.Region.{Region}
use Rattle.tc_elf.specs.declared.image.Region.TheVariants as region
use Rattle.tc_elf.specs.Places.{lies_in, in_writable, touches, byte_of, stack_start, stack_length}

-- of a word at most, and it ends within the address space
pub record IsAccess (addr width : ℕ) : Type 0 where
  pub fits : addr + width ≤ 2 ^ 32
  pub small : width ≤ 4

-- the number in so many bytes from an address on, the lowest first
abbrev pub number_at : (ℕ → ℕ) → ℕ → ℕ → ℕ
number_at byte at zero = 0
number_at byte at (suc n) = byte at + 256 * number_at byte (at + 1) n

-- a memory after a byte came to an address: what the memory doesn't have stays away
abbrev pub with_byte : (ℕ → Option ℕ) → ℕ → ℕ → ℕ → Option ℕ
with_byte memory at value k = if k == at then option_map (λ old. value) (memory k) else memory k

-- a memory after the low bytes of a value came to the addresses from one on, the lowest first
abbrev pub with_number : (ℕ → Option ℕ) → ℕ → ℕ → ℕ → ℕ → Option ℕ
with_number memory at zero value = memory
with_number memory at (suc n) value = with_number (with_byte memory at (value % 256)) (at + 1) n (value / 256)

-- ---- bytes that stand from a start on

abbrev pub byte_from : ℕ → List ℕ → ℕ → Option ℕ
byte_from start bytes at = if nat_le start at then slice_get bytes (at - start) else None

abbrev pub put_byte : ℕ → List ℕ → ℕ → ℕ → List ℕ
put_byte start bytes at value = if nat_le start at then slice_set bytes (at - start) value else bytes

abbrev pub put_number : ℕ → List ℕ → ℕ → ℕ → ℕ → List ℕ
put_number start bytes at zero value = bytes
put_number start bytes at (suc n) value = put_number start (put_byte start bytes at (value % 256)) (at + 1) n (value / 256)

-- ---- a thread's own memory

-- bytes from a start on
pub record Part : Type 0 where
  pub start : ℕ
  pub bytes : List ℕ

abbrev pub part_with : ℕ → ℕ → ℕ → Part → Part
part_with addr width value p = record { start = p.start; bytes = put_number p.start p.bytes addr width value }

-- the byte at an address, of the first part that has it
abbrev pub own_of : List Part → ℕ → Option ℕ
own_of [] at = None
own_of (p ∷ parts) at = option_or (byte_from p.start p.bytes at) (own_of parts at)

-- ---- at the start

-- the byte that the file gives an address
abbrev pub starting_byte : Shown → ℕ → ℕ
starting_byte image at = unwrap_or (byte_of image at) 0

abbrev pub starting_bytes : Shown → ℕ → ℕ → List ℕ
starting_bytes image start length = map (starting_byte image) (range_with_len start length)

-- those of addresses that have this place in a thread's own memory
abbrev pub own_bytes : Shown → Region → ℕ → ℕ → Option (List ℕ)
own_bytes image region.Text start length = None
own_bytes image region.Private start length = Some (starting_bytes image start length)
own_bytes image region.Stack start length = Some (replicate length 0)
own_bytes image (region.Guard lock) start length = None
own_bytes image region.Nothing start length = None

-- the byte of the writable ranges, as the file says
abbrev pub writable_byte : Shown → List Range → ℕ → Option ℕ
writable_byte image ranges at = if list_any (in_writable at 1) ranges then Some (starting_byte image at) else None

-- the stack is of zeros
abbrev pub stack_byte : ℕ → Option ℕ
stack_byte at = if lies_in at 1 stack_start stack_length then Some 0 else None

-- a thread owns the writable bytes outside the guards, and a stack
unfoldable pub own_at_start : Shown → ℕ → Option ℕ
own_at_start image at =
    if list_any (touches at 1) image.guards then None else option_or (writable_byte image image.ranges at) (stack_byte at)
