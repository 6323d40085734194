-- How the program ends.
use Rattle.std.specs.Prelude.{◌≡◌, ℕ, List, [], Some}
use Rattle.tc_io.specs.Stream.{Stream}
use Rattle.tc_io.specs.Taken.{FailsAmid, Gives}
use Rattle.tc_main.specs.Statuses.{status_number}
use Rattle.tc_main.specs.Refusals.{NamedRefusal, refusal_of}
use Rattle.tc_main.specs.Top.{FailsToRead, IsRefusedFor, IsRejectedFor, IsTextOf, IsWanted, ReadsNoFurther, Rejects, Writes, WritesNothing, refused_line, rejected_line, usage_line}
use Rattle.tc_main.specs.Words.{AskForNothing, Reads, needs_of}
use Rattle.tc_main.specs.declared.status.Status.{Status}
use Rattle.tc_main.specs.declared.status.Status.TheVariants.{Done, Usage, ReadFault, Refused, WriteFault, OutOfMemory, Rejected}
use Rattle.tc_main.specs.declared.words.Command.{Command}

-- the verdict on the bytes that were read for what is asked: a text, or a refusal or rejection with its line
abbrev pub Verdict : Command → List ℕ → List ℕ → Status → Type 0
Verdict asked bytes text Done = IsTextOf asked bytes text
Verdict asked bytes text (Refused k) = (r : NamedRefusal) × (refusal_of (needs_of asked) bytes ≡ Some r) × (k ≡ r.number) × (text ≡ refused_line r)
Verdict asked bytes text Usage = ⊥
Verdict asked bytes text ReadFault = ⊥
Verdict asked bytes text WriteFault = ⊥
Verdict asked bytes text OutOfMemory = ⊥
Verdict asked bytes text (Rejected r) = Rejects (needs_of asked) bytes r × (text ≡ rejected_line r)

-- the arguments and the source give this status, with a text that satisfies P
abbrev pub Comes : List (List ℕ) → Stream → Stream → (List ℕ → Type 0) → Status → Type 0
Comes words before now P Done = (text : List ℕ) × IsWanted words before now text × P text
Comes words before now P Usage = AskForNothing words × (now ≡ before) × P usage_line
Comes words before now P ReadFault = FailsToRead words before now × P []
Comes words before now P (Refused k) = (r : NamedRefusal) × (k ≡ r.number) × IsRefusedFor words before now r × P (refused_line r)
Comes words before now P WriteFault = ⊥
Comes words before now P OutOfMemory = ⊥
Comes words before now P (Rejected r) = IsRejectedFor words before now r × P (rejected_line r)

-- how the program ends: the answer to the arguments and the source, and how much of the text was written
abbrev pub Ends : List (List ℕ) → Stream → Stream → Stream → Stream → Status → Type 0
Ends words before now had has Done = Comes words before now (Gives had has) Done
Ends words before now had has Usage = Comes words before now (Writes had has) Usage
Ends words before now had has ReadFault = Comes words before now (Gives had has) ReadFault
Ends words before now had has (Refused k) = Comes words before now (Writes had has) (Refused k)
Ends words before now had has WriteFault = Comes words before now (FailsAmid had has) Done
Ends words before now had has OutOfMemory = ReadsNoFurther words before now × WritesNothing had has
Ends words before now had has (Rejected r) = Comes words before now (Writes had has) (Rejected r)

-- ---- the process

-- the program was given some arguments and ended so, and the process ends with the number of its status
pub record EndsProcess (before now had has : Stream) (code : ℕ) : Type 0 where
  pub words : List (List ℕ)
  pub status : Status
  pub ends : Ends words before now had has status
  pub unread : ¬ Reads words → now ≡ before
  pub number : code ≡ status_number status
