use Rattle.std.specs.Prelude.{ℕ, ◌≤◌, List, [], ◌++◌, length, All}
use Rattle.tc_elf.specs.Shown.{Shown}
use Rattle.tc_journal.specs.declared.block.Block.{Block}
use Rattle.tc_mutex_spec.specs.Machine.{start}
use Rattle.tc_core.specs.Core.{Limits}
use Rattle.tc_told.specs.Written.{KeepsRules}
use Rattle.tc_told.proofs.Small.{IsSmall, known_start, tells_small}
use Rattle.tc_told.proofs.Realized.{is_written}
use Rattle.tc_told.proofs.Conversely.{rules_kept}
use Rattle.tc_told.proofs.Closing.{written_to_rest, written_whole}
use Rattle.tc_told.proofs.InParts.{written_in_parts}
use Rattle.tc_told.proofs.Counted.{blocks_written}
use Rattle.tc_told.proofs.Adopters.{adopter_is}
use Rattle.tc_told.proofs.realization.realization.Goals as goal

small_of : (image : Shown) (limits : Limits) (fuel : ℕ) (h : List Block) → length image.guards ≤ 32 → KeepsRules image limits fuel h → All IsSmall h
small_of image limits fuel h few keeps = tells_small image [] h (start image fuel) keeps.last few keeps.tells (known_start image fuel)

pub returns-clause-exact : goal.returns-clause-exact
returns-clause-exact c = λ image limits fuel h few. (
  λ keeps. is_written image limits fuel h (small_of image limits fuel h few keeps) keeps,
  λ is. rules_kept image limits fuel h few is,
)

pub returns-clause-rest : goal.returns-clause-rest
returns-clause-rest c = λ image limits fuel h few keeps. written_to_rest image limits fuel h (small_of image limits fuel h few keeps) keeps

pub returns-clause-whole : goal.returns-clause-whole
returns-clause-whole c = λ image limits fuel h few keeps complete. written_whole image limits fuel h (small_of image limits fuel h few keeps) keeps complete

pub returns-clause-parts : goal.returns-clause-parts
returns-clause-parts c = λ image limits fuel front back few keeps. written_in_parts image limits fuel front back (small_of image limits fuel (front ++ back) few keeps) keeps

pub returns-clause-counted : goal.returns-clause-counted
returns-clause-counted c = blocks_written

pub returns-clause-adopter : goal.returns-clause-adopter
returns-clause-adopter c = adopter_is
