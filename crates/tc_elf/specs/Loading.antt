-- Which files are loaded, and what they describe.
use Rattle.std.specs.Prelude.{◌≡◌, ℕ, List, Option, None, Some, Result, Ok, Err, unwrap_or}
use Rattle.std.specs.Option.{option_or}
use Rattle.tc_elf.specs.declared.refusal.Refusal.{Refusal}
use Rattle.tc_elf.specs.declared.refusal.Refusal.TheVariants as refused
use Rattle.tc_elf.specs.Elf.{segments, ranges}
use Rattle.tc_elf.specs.Notes.{Layout, layout, header_layout}
use Rattle.tc_elf.specs.Refusals.{header_refusal, segment_refusal, layout_refusal}
use Rattle.tc_elf.specs.Shown.{Shown, Range}

-- the first reason why a file is refused; None if it is loaded
unfoldable pub refusal : List ℕ → Option Refusal
refusal b =
    option_or (header_refusal b)
    (option_or (segment_refusal b (segments b)) (layout_refusal (ranges b) (layout b)))

abbrev pub image_of : List Range → Layout → Shown
image_of rs l = record { ranges = rs; entries = l.entries; guards = l.guards }

-- the image that a file describes; every file that is loaded has a layout
unfoldable pub shown_of : List ℕ → Shown
shown_of b = image_of (ranges b) (unwrap_or (layout b) (header_layout b))

-- the file is of the subset that is loaded, and describes the image
abbrev pub subset : List ℕ → Shown → Type 0
subset b image = (refusal b ≡ None) × (image ≡ shown_of b)

-- what `load` returns; memory may run out for any file
abbrev pub Loads : List ℕ → Result Shown Refusal → Type 0
Loads b (Ok image) = subset b image
Loads b (Err refused.OutOfMemory) = Unit {0}
Loads b (Err r) = refusal b ≡ Some r
