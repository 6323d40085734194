-- The image that is described to `build`.
use Rattle.std.specs.Prelude.{◌≡◌, ℕ, ◌*◌, nat_lt, true, false, List, [], ◌∷◌, length, map, filter, Option, None, Some}
use Rattle.std.specs.List.{flat_map}
use Rattle.tc_elf.specs.declared.refusal.Refusal.{Refusal}
use Rattle.tc_elf.specs.Shown.{Shown, Range, Entry, Guard}
use Rattle.tc_elf.specs.Refusals.{layout_refusal}
use Rattle.tc_elf.specs.Loading.{refusal, subset}
use Rattle.tc_build.specs.Build.{word_bytes}

abbrev pub code_range : List ℕ → Range
code_range code = record {
  start = 0x00100000;
  length = 4 * length code;
  writable = false;
  executable = true;
  bytes = flat_map word_bytes code;
}

abbrev pub data_range : List ℕ → Range
data_range fill = record { start = 0x00020000; length = length fill; writable = true; executable = false; bytes = fill }

-- the code and the data; an empty one makes no range
abbrev pub described_ranges : List ℕ → List ℕ → List Range
described_ranges code fill = filter (λ r. nat_lt 0 r.length) (code_range code ∷ data_range fill ∷ [])

abbrev pub entry_of : ℕ × ℕ → Entry
entry_of pair = record { address = pair.0; argument = pair.1 }

abbrev pub guard_of : ℕ × ℕ → Guard
guard_of pair = record { start = pair.0; length = pair.1 }

abbrev pub described : List ℕ → List (ℕ × ℕ) → List ℕ → List (ℕ × ℕ) → Shown
described code entries fill guards = record {
  ranges = described_ranges code fill;
  entries = map entry_of entries;
  guards = map guard_of guards;
}

-- what is wrong with the entries or the guards of an image
abbrev pub place_refusal : Shown → Option Refusal
place_refusal image = layout_refusal image.ranges (Some (record { entries = image.entries; guards = image.guards }))

-- only its entries and its guards may be a reason to refuse the file; if they are not, it describes the image
pub record StandsFor (file : List ℕ) (image : Shown) : Type 0 where
  pub refused : refusal file ≡ place_refusal image
  pub loaded : place_refusal image ≡ None → subset file image
