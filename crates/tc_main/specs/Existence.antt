-- There is a legal run.
use Rattle.std.specs.Prelude.{List}
use Rattle.tc_elf.specs.Shown.{Shown}
use Rattle.tc_journal.specs.declared.block.Block.{Block}
use Rattle.tc_isa.specs.declared.options.Options.{Options}
use Rattle.tc_report.specs.Legal.{IsLegalRun, results_after}

-- a history of a legal run of the guest with these options, with the results of that run
pub record HasLegalRun (image : Shown) (o : Options) : Type 0 where
  pub history : List Block
  pub legal : IsLegalRun image o (results_after image o.fuel history)
