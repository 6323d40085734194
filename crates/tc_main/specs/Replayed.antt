-- A finished history of a guest: the first bytes are the guest's file, and the text of the history follows them.
use Rattle.std.specs.Prelude.{◌≡◌, ℕ, ◌<◌, ◌≤◌, ◌⊎◌, List, length, take, drop}
use Rattle.tc_isa.specs.declared.options.Options.{Options}
use Rattle.tc_elf.specs.Loading.{subset}
use Rattle.tc_elf.specs.Shown.{Shown}
use Rattle.tc_journal.specs.Reading.{IsTextOf as IsHistoryText, IsFirstWrong}
use Rattle.tc_journal.specs.Told.{told}
use Rattle.tc_journal.specs.declared.block.Block.{Block}
use Rattle.tc_mutex_spec.specs.Blocks.{end_after}
use Rattle.tc_mutex_spec.specs.Entries.{HasJournal}
use Rattle.tc_replay.specs.Rejected.{IsCompleteRun, IsRejected}
use Rattle.tc_replay.specs.declared.reason.Reason.TheVariants as reason
use Rattle.tc_replay.specs.declared.reason.Rejected.{Rejected}
use Rattle.tc_report.specs.Legal.{results_after}
use Rattle.tc_report.specs.Report.{report_text}

-- the first bytes, so many, are the file of this guest, and the text of this history follows them
pub record HasHistory (size : ℕ) (bytes : List ℕ) (image : Shown) (h : List Block) : Type 0 where
  pub enough : size ≤ length bytes
  pub guest : subset (take size bytes) image
  pub text : IsHistoryText told (drop size bytes) h

-- the history is a trace of a complete run of the guest, obeys the batch limit, and its workers exist
pub record HasRun (size : ℕ) (o : Options) (bytes : List ℕ) : Type 0 where
  pub image : Shown
  pub history : List Block
  pub is : HasHistory size bytes image history
  pub run : IsCompleteRun image o history

-- the text is the report of that run, in which each lock is the RV32IM replay of its journal
pub record IsReplayReport (size : ℕ) (o : Options) (bytes text : List ℕ) : Type 0 where
  pub run : HasRun size o bytes
  pub journals : (k : ℕ) → k < length run.image.guards → HasJournal run.image o.fuel run.history (end_after run.image o.fuel run.history) k
  pub printed : text ≡ report_text run.image o (results_after run.image o.fuel run.history)

-- no text of a history follows the file of a guest, and this is its first wrong line
pub record HasWrongText (size : ℕ) (bytes : List ℕ) (r : Rejected) : Type 0 where
  pub image : Shown
  pub enough : size ≤ length bytes
  pub guest : subset (take size bytes) image
  pub reason : r.reason ≡ reason.Text
  pub line : IsFirstWrong told (drop size bytes) r.line

-- this line of the history is its first wrong one, for this reason
pub record HasWrongHistory (size : ℕ) (o : Options) (bytes : List ℕ) (r : Rejected) : Type 0 where
  pub image : Shown
  pub history : List Block
  pub is : HasHistory size bytes image history
  pub rejected : IsRejected image o history r.line r.reason

-- what follows the guest's file is rejected like this
abbrev pub IsRejection : ℕ → Options → List ℕ → Rejected → Type 0
IsRejection size o bytes r = HasWrongText size bytes r ⊎ HasWrongHistory size o bytes r
