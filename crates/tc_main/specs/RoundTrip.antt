-- A history that is given back for its replay.
use Rattle.std.specs.Prelude.{◌≡◌, ℕ, ◌≤◌, List, ◌++◌, length, Some}
use Rattle.tc_io.specs.Stream.{Stream}
use Rattle.tc_isa.specs.declared.options.Options.{Options}
use Rattle.tc_journal.specs.Line.{history_text}
use Rattle.tc_journal.specs.declared.block.Block.{Block}
use Rattle.tc_main.specs.Words.{AskFor, FileAndHistory, most_of}
use Rattle.tc_main.specs.declared.words.Command.TheVariants.{Replay}

-- the arguments ask for a replay with these options; the source is known to have this guest's file
-- followed by the lines of this history, in all no more bytes than are read
pub record IsGivenBack (words : List (List ℕ)) (o : Options) (file : List ℕ) (h : List Block) (source : Stream) : Type 0 where
  pub asks : AskFor words (Replay (length file) o)
  pub told : source.bytes ≡ Some (file ++ history_text h)
  pub few : length (file ++ history_text h) ≤ most_of (FileAndHistory (length file) o)
