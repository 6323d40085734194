-- The guest of a file.
use Rattle.std.proofs.Common.{◌≤◌, ℕ, List, length, refl}
use Rattle.tc_elf.proofs.Images.{IsImage-parts}
use Rattle.tc_elf.specs.Kept.{IsImage}
use Rattle.tc_elf.specs.Loading.{subset}
use Rattle.tc_elf.specs.Notes.{Layout}
use Rattle.tc_elf.specs.Shown.{Shown}
use Rattle.tc_elf.specs.declared.limits.TheConstants.{MAX_GUARDS, MAX_THREADS}

-- it has as few threads and guards as any image
pub guest_few : (file : List ℕ) (image : Shown) → subset file image → (length image.entries ≤ MAX_THREADS) × (length image.guards ≤ MAX_GUARDS)
guest_few file image guest =
    let layout : Layout = record { entries = image.entries; guards = image.guards } in
    let is : IsImage image = IsImage-parts file image.ranges layout layout refl guest in
    (is.few_threads, is.few_guards)
