-- There is a history that obeys the rules and shows delegation.
use Rattle.std.specs.Prelude.{ℕ, List}
use Rattle.tc_elf.specs.Shown.{Shown}
use Rattle.tc_journal.specs.History.{IsHistory}
use Rattle.tc_journal.specs.declared.block.Block.{Block}
use Rattle.tc_mutex_spec.specs.Blocks.{IsComplete}
use Rattle.tc_core.specs.Core.{Limits}
use Rattle.tc_told.specs.Handover.{ShowsDelegation}
use Rattle.tc_told.specs.Written.{KeepsRules}

-- a complete history that obeys the rules, also by the workers that it names, and shows delegation
pub record HasHistory (image : Shown) (limits : Limits) (fuel : ℕ) : Type 0 where
  pub history : List Block
  pub numbers : IsHistory history
  pub rules : KeepsRules image limits fuel history
  pub shows : ShowsDelegation image limits fuel history
  pub complete : IsComplete image rules.last
