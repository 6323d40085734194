-- Runs with your own order of waiters.
use Rattle.std.specs.Prelude.{ℕ, List}
use Rattle.tc_isa.specs.declared.options.Options.{Options}
use Rattle.tc_main.specs.Words.{spelling}
use Rattle.tc_main.specs.declared.policy.Policy.TheVariants.{Entry}
use Rattle.tc_main.specs.declared.words.Command.TheVariants.{Run}

-- the arguments `run W F B` of these options
abbrev pub run_words : Options → List (List ℕ)
run_words o = spelling (Run Entry o)
