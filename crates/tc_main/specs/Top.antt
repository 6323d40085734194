-- What the program answers and writes.
use Rattle.std.specs.Prelude.{◌≡◌, ℕ, ◌+◌, ◌≤◌, ◌⊎◌, List, [], ◌∷◌, ◌++◌, length, None, Some, codes, decimal}
use Rattle.std.specs.Io.KnownBytes.{IsAtEnd}
use Rattle.tc_io.specs.Causes.{Rose}
use Rattle.tc_io.specs.Stream.{Stream}
use Rattle.tc_io.specs.Taken.{FailsAmid, FailsWithin, Gives, Takes, TakesAll, TakesAtMost}
use Rattle.tc_isa.specs.declared.options.Options.{Options}
use Rattle.tc_elf.specs.Loading.{subset}
use Rattle.tc_elf.specs.Shown.{Shown}
use Rattle.tc_build.specs.Generator.{generated, generated_file}
use Rattle.tc_profile.specs.Text.{profile_text}
use Rattle.tc_replay.specs.Reasons.{reason_number, reason_name}
use Rattle.tc_replay.specs.declared.reason.Rejected.{Rejected as Rejection}
use Rattle.tc_report.specs.Legal.{IsLegalRun}
use Rattle.tc_main.specs.Replayed.{HasRun, IsRejection, IsReplayReport}
use Rattle.tc_report.specs.Report.{report_text}
use Rattle.tc_report.specs.Results.{Results}
use Rattle.tc_report.specs.Summary.{summary_text}
use Rattle.tc_main.specs.Refusals.{NamedRefusal, refusal_of}
use Rattle.tc_main.specs.Words.{AskFor, AskForNothing, AskToRead, FileAndHistory, GuestFile, Needs, Nothing, most_of, needs_of}
use Rattle.tc_main.specs.declared.status.Status.{Status}
use Rattle.tc_main.specs.declared.status.Status.TheVariants.{Done, Usage, ReadFault, Refused, WriteFault, OutOfMemory, Rejected}
use Rattle.tc_main.specs.declared.words.Command.{Command}
use Rattle.tc_main.specs.declared.words.Command.TheVariants.{Run, Generate, Demo, Replay, Profile}

abbrev pub usage_line : List ℕ
usage_line = codes "usage: tclocks run W F B | tclocks gen N | tclocks demo N W | tclocks replay N W F B | tclocks nodes G K W F B | tclocks profile N W F B\n"

-- the number and the name of a refusal
abbrev pub refused_line : NamedRefusal → List ℕ
refused_line r = codes "refused " ++ decimal r.number ++ codes " " ++ r.name ++ 10 ∷ []

-- where a history is rejected, and the number and the name of the reason
abbrev pub rejected_line : Rejection → List ℕ
rejected_line r = codes "rejected " ++ decimal r.line ++ codes " " ++ decimal (reason_number r.reason) ++ codes " " ++ reason_name r.reason ++ 10 ∷ []

-- ---- what was read, by the source before and after the call

-- the source was read to its end, and had these bytes, which are within the limit
pub record ReadsAll (needs : Needs) (before now : Stream) (bytes : List ℕ) : Type 0 where
  pub few : length bytes ≤ most_of needs
  pub read : TakesAll before now bytes

-- these bytes were read for what is asked; if it needs none, none were
abbrev pub HasRead : Needs → Stream → Stream → List ℕ → Type 0
HasRead Nothing before now bytes = (now ≡ before) × (bytes ≡ [])
HasRead GuestFile before now bytes = ReadsAll GuestFile before now bytes
HasRead (FileAndHistory size o) before now bytes = ReadsAll (FileAndHistory size o) before now bytes

-- no read failed, and these bytes were read: all of the source's, or, if it has more than the limit, one more than that
pub record ReadsEnough (needs : Needs) (before now : Stream) (bytes : List ℕ) : Type 0 where
  pub read : Takes before now bytes
  pub most : length bytes ≤ most_of needs + 1
  pub end : length bytes ≤ most_of needs → IsAtEnd now.bytes

-- the arguments ask for something that is read, and a read failed, after no more bytes than are read for it
abbrev pub FailsToRead : List (List ℕ) → Stream → Stream → Type 0
FailsToRead words before now = (needs : Needs) × AskToRead words needs × FailsWithin before now (most_of needs)

-- if the arguments ask for something that is read, no read failed, and at most one byte more than the limit was read
abbrev pub ReadsNoFurther : List (List ℕ) → Stream → Stream → Type 0
ReadsNoFurther words before now = (needs : Needs) → AskToRead words needs → TakesAtMost before now (most_of needs + 1)

-- ---- refusals

-- the arguments ask for something that is read, and what was read of the source is refused for this reason
pub record IsRefusedFor (words : List (List ℕ)) (before now : Stream) (r : NamedRefusal) : Type 0 where
  pub needs : Needs
  pub bytes : List ℕ
  pub asks : AskToRead words needs
  pub read : ReadsEnough needs before now bytes
  pub refused : refusal_of needs bytes ≡ Some r

-- ---- rejections

-- the history, if one is needed, is rejected like this
abbrev pub Rejects : Needs → List ℕ → Rejection → Type 0
Rejects Nothing bytes r = ⊥
Rejects GuestFile bytes r = ⊥
Rejects (FileAndHistory size o) bytes r = IsRejection size o bytes r

-- the arguments ask for a history, no read failed, and it is rejected like this
pub record IsRejectedFor (words : List (List ℕ)) (before now : Stream) (r : Rejection) : Type 0 where
  pub asked : Command
  pub bytes : List ℕ
  pub asks : AskFor words asked
  pub read : HasRead (needs_of asked) before now bytes
  pub rejected : Rejects (needs_of asked) bytes r

-- ---- texts

-- the text is the report of a legal run of this image with these options
pub record IsReportOf (image : Shown) (o : Options) (text : List ℕ) : Type 0 where
  pub results : Results
  pub legal : IsLegalRun image o results
  pub printed : text ≡ report_text image o results

-- the text is the report of a legal run, with these options, of the guest whose file these bytes are
abbrev pub IsReport : Options → List ℕ → List ℕ → Type 0
IsReport o bytes text = (image : Shown) × subset bytes image × IsReportOf image o text

-- the text is the summary of a legal run of the generator's guest with so many rounds
pub record IsSummaryOf (rounds : ℕ) (o : Options) (text : List ℕ) : Type 0 where
  pub results : Results
  pub legal : IsLegalRun (generated rounds) o results
  pub printed : text ≡ summary_text rounds results

-- the text is what is asked for, given the bytes that were read. The report is the same for each order of waiters
abbrev pub IsTextOf : Command → List ℕ → List ℕ → Type 0
IsTextOf (Run order o) bytes text = IsReport o bytes text
IsTextOf (Generate rounds) bytes text = text ≡ generated_file rounds
IsTextOf (Demo rounds o) bytes text = IsSummaryOf rounds o text
IsTextOf (Replay size o) bytes text = IsReplayReport size o bytes text
IsTextOf (Profile size o) bytes text = (run : HasRun size o bytes) × (text ≡ profile_text run.image run.history)

-- the text is what the arguments ask for, given what was read of the source
pub record IsWanted (words : List (List ℕ)) (before now : Stream) (text : List ℕ) : Type 0 where
  pub asked : Command
  pub bytes : List ℕ
  pub asks : AskFor words asked
  pub read : HasRead (needs_of asked) before now bytes
  pub made : IsTextOf asked bytes text

-- ---- what is to be done

-- nothing is wrong with the history, if one is needed
abbrev pub Accepts : Needs → List ℕ → Type 0
Accepts Nothing bytes = Unit {0}
Accepts GuestFile bytes = Unit {0}
Accepts (FileAndHistory size o) bytes = HasRun size o bytes

-- the contents of the source are known, no read fails, the bytes are not refused, and they have an
-- accepted history, if one is needed
pub record HasFile (needs : Needs) (before now : Stream) : Type 0 where
  pub bytes : List ℕ
  pub told : before.bytes ≡ Some bytes
  pub fine : refusal_of needs bytes ≡ None
  pub accepted : Accepts needs bytes
  pub quiet : ¬ Rose before now

-- if something is to be read, the source has it
abbrev pub HasInput : Needs → Stream → Stream → Type 0
HasInput Nothing before now = Unit {0}
HasInput GuestFile before now = HasFile GuestFile before now
HasInput (FileAndHistory size o) before now = HasFile (FileAndHistory size o) before now

-- the arguments ask for what can be done
pub record CanBeDone (words : List (List ℕ)) (before now : Stream) : Type 0 where
  pub asked : Command
  pub asks : AskFor words asked
  pub input : HasInput (needs_of asked) before now

-- ---- what is to be refused

-- the arguments ask for something from a source whose contents are known, and no read fails
pub record TellsBytes (words : List (List ℕ)) (before now : Stream) : Type 0 where
  pub needs : Needs
  pub bytes : List ℕ
  pub asks : AskToRead words needs
  pub told : before.bytes ≡ Some bytes
  pub quiet : ¬ Rose before now

-- the arguments, or the bytes of the source, are to be refused with this status
abbrev pub MustRefuse : List (List ℕ) → Stream → Stream → Status → Type 0
MustRefuse words before now Usage = AskForNothing words
MustRefuse words before now (Refused k) =
    (source : TellsBytes words before now) × ((r : NamedRefusal) × (refusal_of source.needs source.bytes ≡ Some r) × (k ≡ r.number))
MustRefuse words before now Done = ⊥
MustRefuse words before now ReadFault = ⊥
MustRefuse words before now WriteFault = ⊥
MustRefuse words before now OutOfMemory = ⊥
MustRefuse words before now (Rejected r) =
    (source : TellsBytes words before now) × (length source.bytes ≤ most_of source.needs) × Rejects source.needs source.bytes r

-- ---- what is written, by the sink before and after the call

-- the text was written whole, or a prefix of it before the sink failed
abbrev pub Writes : Stream → Stream → List ℕ → Type 0
Writes had has text = Gives had has text ⊎ FailsAmid had has text

abbrev pub WritesNothing : Stream → Stream → Type 0
WritesNothing had has = Gives had has []
