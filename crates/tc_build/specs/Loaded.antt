-- What the loader returns for files that describe an image.
use Rattle.std.specs.Prelude.{◌≡◌, ℕ, List, None, Result, Ok, Err}
use Rattle.tc_elf.specs.declared.refusal.Refusal.{Refusal}
use Rattle.tc_elf.specs.declared.refusal.Refusal.TheVariants.{OutOfMemory}
use Rattle.tc_elf.specs.Shown.{Shown}
use Rattle.tc_elf.specs.Loading.{Loads}
use Rattle.tc_build.specs.Described.{place_refusal, StandsFor}
use Rattle.tc_build.specs.Generator.{generated}

-- the image is returned, unless memory runs out
abbrev pub Gives : Shown → Result Shown Refusal → Type 0
Gives image (Ok found) = found ≡ image
Gives image (Err reason) = reason ≡ OutOfMemory

-- if the entries and the guards of the image are in order, `load` returns it
abbrev pub DescribedLoads : Type 0
DescribedLoads =
    (file : List ℕ) (image : Shown) (answer : Result Shown Refusal)
    → StandsFor file image → place_refusal image ≡ None → Loads file answer → Gives image answer

-- nothing is wrong with those of the generator's guest
abbrev pub GeneratedStands : Type 0
GeneratedStands = (rounds : ℕ) → place_refusal (generated rounds) ≡ None
