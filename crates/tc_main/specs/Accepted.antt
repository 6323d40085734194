-- An accepted history, as a replay has it.
use Rattle.std.specs.Prelude.{◌≡◌, ℕ, ◌<◌, ◌≤◌, true, List, length}
use Rattle.tc_isa.specs.Sets.{has}
use Rattle.tc_isa.specs.declared.limits.TheConstants.{MAX_TURNS}
use Rattle.tc_isa.specs.declared.options.Options.{Options}
use Rattle.tc_elf.specs.Shown.{Shown}
use Rattle.tc_journal.specs.declared.block.Block.{Block}
use Rattle.tc_law.specs.Lawful.{StandsAt}
use Rattle.tc_replay.specs.Rejected.{IsCompleteRun}
use Rattle.tc_replay.specs.Taken.{HasEnded, HasTaken}
use Rattle.tc_main.specs.declared.replay.Replay.{Replay}

-- nothing is wrong with the history of a replay, and the checker has taken it to the end of every thread
pub record IsReplayed (o : Options) (r : Replay) : Type 0 where
  pub run : IsCompleteRun r.image o r.history.items
  pub taken : HasTaken r.checker r.history.items
  pub ended : HasEnded r.checker
  pub image : r.checker.image ≡ r.image
  pub terms : r.checker.terms ≡ o

-- what a profile requires of a block: its thread and its locks are those of the image
pub record CanBeAdded (image : Shown) (b : Block) : Type 0 where
  pub thread : b.thread < length image.entries
  pub locks : (k : ℕ) → has b.held k ≡ true → k < length image.guards
  pub turns : b.turns ≤ MAX_TURNS

abbrev pub CanAllBeAdded : Shown → List Block → Type 0
CanAllBeAdded image h = (i : ℕ) (b : Block) → StandsAt h i b → CanBeAdded image b
