-- What is read from a text that may be that of a history.
use Rattle.std.specs.Prelude.{◌≡◌, ◌≢◌, ℕ, ◌+◌, List, [], ◌++◌, length}
use Rattle.tc_journal.specs.Told.{Told}
use Rattle.tc_journal.specs.History.{IsTold, IsToldFrom}
use Rattle.tc_journal.specs.Line.{told_line, lines_text}

-- the text begins with the line that says this of a block of a history with this stamp
pub record BeginsWith (text : List ℕ) (stamp : ℕ) (t : Told) : Type 0 where
  pub block : IsTold t
  pub place : t.block.stamp ≡ stamp
  pub more : List ℕ
  pub line : text ≡ told_line t ++ more

-- the blocks have the stamps 0, 1, 2 and so on, and the text is that of their lines
pub record IsTextOf {B : Type 0} (told_of : B → Told) (text : List ℕ) (h : List B) : Type 0 where
  pub history : IsToldFrom told_of 0 h
  pub lines : text ≡ lines_text told_of h

-- these lines at the start are those of a history, and the rest does not begin with the line of the next block
pub record Reads {B : Type 0} (told_of : B → Told) (text : List ℕ) (h : List B) (left : List ℕ) : Type 0 where
  pub history : IsToldFrom told_of 0 h
  pub lines : text ≡ lines_text told_of h ++ left
  pub stops : (b : B) → BeginsWith left (length h) (told_of b) → ⊥

-- the line of this number, from 1, exists and is wrong, and the lines before it are those of a history
pub record IsFirstWrong {B : Type 0} (told_of : B → Told) (text : List ℕ) (line : ℕ) : Type 0 where
  pub before : List B
  pub left : List ℕ
  pub reads : Reads told_of text before left
  pub some : left ≢ []
  pub number : line ≡ length before + 1
