-- The lines of a history in pieces.
use Rattle.std.specs.Prelude.{◌≡◌, ℕ, List, length, map, min}
use Rattle.std.specs.Fork.{slice_chunk}
use denote.Ref.{Bor}
use Rattle.tc_journal.specs.Line.{history_text}
use Rattle.tc_journal.specs.declared.block.Block.{Block}
use Rattle.tc_report.specs.Logs.{AreLogs, blocks_in, merged}
use Rattle.tc_report.specs.declared.piece.TheConstants.{BLOCKS}

-- the lines of blocks that stand elsewhere
abbrev pub lines_of : List (Bor Block) → List ℕ
lines_of blocks = history_text (map (λ b. b.now) blocks)

-- the lines of the history that the logs have in parts
abbrev pub lines_in : List (Bor (List Block)) → List ℕ
lines_in logs = history_text (merged logs)

-- the lines of the blocks of this number's piece of a history
abbrev pub piece_of : List Block → ℕ → List ℕ
piece_of history number = history_text (slice_chunk history BLOCKS number)

-- these are the lines of each piece of the logs' history, and a piece has room for so many, the most that one has
pub record AreLines (logs : List (Bor (List Block))) (lines : ℕ → List ℕ) (room : ℕ) : Type 0 where
  pub parts : AreLogs logs
  pub each : (number : ℕ) → lines number ≡ piece_of (merged logs) number
  pub enough : room ≡ min BLOCKS (length (blocks_in logs))
