use Rattle.std.proofs.Common.{◌≡◌, ℕ, List, Some, None, Result, Ok, Err, refl, sym, ◌∙◌}
use Rattle.tc_elf.specs.declared.refusal.Refusal.{Refusal}
use Rattle.tc_elf.specs.declared.refusal.Refusal.TheVariants.{OutOfMemory}
use Rattle.tc_elf.specs.Shown.{Shown}
use Rattle.tc_elf.specs.Loading.{Loads}
use Rattle.tc_build.specs.Described.{place_refusal, StandsFor}
use Rattle.tc_build.specs.Loaded.{Gives}
use Rattle.tc_build.proofs.Places.{nothing_refuses}
use Rattle.tc_build.proofs.law.loading.Goals as goal

gives : (file : List ℕ) (image : Shown) (answer : Result Shown Refusal) → StandsFor file image → place_refusal image ≡ None → Loads file answer → Gives image answer
gives file image (Ok found) stands none loads = loads.1 ∙ sym (stands.loaded none).1
gives file image (Err OutOfMemory) stands none loads = refl
gives file image (Err reason) stands none loads = let no : None ≡ Some reason = sym (stands.loaded none).0 ∙ loads in cc

pub returns-clause-described : goal.returns-clause-described
returns-clause-described c = gives

pub returns-clause-generated : goal.returns-clause-generated
returns-clause-generated c = nothing_refuses
