-- Why there is no text for what is asked, given the bytes that were read for it.
use Rattle.std.specs.Prelude.{◌≡◌, ◌≢◌, ℕ, ◌<◌, ◌≤◌, List, length, take, Some}
use Rattle.tc_isa.specs.declared.options.Options.{Options}
use Rattle.tc_elf.specs.Loading.{refusal}
use Rattle.tc_elf.specs.declared.refusal.Refusal.TheVariants as refused
use Rattle.tc_journal.specs.Reading.{IsFirstWrong}
use Rattle.tc_journal.specs.Told.{told}
use Rattle.tc_replay.specs.declared.reason.Reason.TheVariants as reason
use Rattle.tc_main.specs.Refusals.{named, refusal_of, short_input}
use Rattle.tc_main.specs.Words.{needs_of}
use Rattle.tc_main.specs.Replayed.{IsRejection}
use Rattle.tc_main.specs.Top.{Rejects}
use Rattle.tc_main.specs.declared.words.Command.{Command}
use Rattle.tc_main.specs.declared.wrong.Wrong.{Wrong}
use Rattle.tc_main.specs.declared.wrong.Wrong.TheVariants.{Short, File, History, OutOfMemory}

-- a guest's file is refused
abbrev pub IsWrongFile : List ℕ → Wrong → Type 0
IsWrongFile file Short = ⊥
IsWrongFile file (File reason) = (refusal file ≡ Some reason) × (reason ≢ refused.OutOfMemory)
IsWrongFile file (History r) = ⊥
IsWrongFile file OutOfMemory = Unit {0}

-- a text is not that of a history
abbrev pub IsWrongText : List ℕ → Wrong → Type 0
IsWrongText text Short = ⊥
IsWrongText text (File reason) = ⊥
IsWrongText text (History r) = (r.reason ≡ reason.Text) × IsFirstWrong told text r.line
IsWrongText text OutOfMemory = Unit {0}

-- a guest's file followed by a history is wrong
abbrev pub IsWrongInput : ℕ → Options → List ℕ → Wrong → Type 0
IsWrongInput size o bytes Short = length bytes < size
IsWrongInput size o bytes (File reason) = (size ≤ length bytes) × IsWrongFile (take size bytes) (File reason)
IsWrongInput size o bytes (History r) = IsRejection size o bytes r
IsWrongInput size o bytes OutOfMemory = Unit {0}

-- there is no text for what is asked
abbrev pub IsWrong : Command → List ℕ → Wrong → Type 0
IsWrong asked bytes Short = refusal_of (needs_of asked) bytes ≡ Some short_input
IsWrong asked bytes (File reason) = refusal_of (needs_of asked) bytes ≡ Some (named reason)
IsWrong asked bytes (History r) = Rejects (needs_of asked) bytes r
IsWrong asked bytes OutOfMemory = Unit {0}
