-- The invariant of every image.
use Rattle.std.specs.Prelude.{◌≡◌, ◌+◌, ◌%◌, ◌^◌, ◌≤◌, true, false, length, All, AllPairs}
use Rattle.std.specs.List.{list_any}
use Rattle.tc_elf.specs.declared.limits.TheConstants.{MAX_HEADERS, MAX_THREADS, MAX_GUARDS, MIN_GUARD_LENGTH, MAX_GUARD_LENGTH}
use Rattle.tc_elf.specs.Shown.{Shown, Range, Guard}
use Rattle.tc_elf.specs.Places.{in_writable, meets}

-- a range ends within the address space, and has a byte for each address
pub record IsRange (r : Range) : Type 0 where
  pub fits : r.start + r.length ≤ 2 ^ 32
  pub whole : length r.bytes ≡ r.length

-- a guard is of whole words, and lies in one writable range
pub record IsGuard (image : Shown) (g : Guard) : Type 0 where
  pub aligned : g.start % 4 ≡ 0
  pub whole : g.length % 4 ≡ 0
  pub least : MIN_GUARD_LENGTH ≤ g.length
  pub most : g.length ≤ MAX_GUARD_LENGTH
  pub fits : g.start + g.length ≤ 2 ^ 32
  pub inside : list_any (in_writable g.start g.length) image.ranges ≡ true

pub record IsImage (image : Shown) : Type 0 where
  pub few_ranges : length image.ranges ≤ MAX_HEADERS
  pub some_thread : 1 ≤ length image.entries
  pub few_threads : length image.entries ≤ MAX_THREADS
  pub few_guards : length image.guards ≤ MAX_GUARDS
  pub ranges : All IsRange image.ranges
  pub entries : All (λ e. e.address % 4 ≡ 0) image.entries
  pub guards : All (IsGuard image) image.guards
  pub apart : AllPairs (λ g h. meets g.start g.length h.start h.length ≡ false) image.guards
