-- The command-line arguments: `run W F B`, `gen N`, `demo N W`, `replay N W F B`, `nodes G K W F B`
-- or `profile N W F B`, each number in decimal digits without a leading zero.
use Rattle.std.specs.Prelude.{◌≡◌, ◌≢◌, ℕ, ◌+◌, ◌≤◌, List, [], ◌∷◌, length, codes, decimal}
use Rattle.tc_isa.specs.declared.options.Options.{Options}
use Rattle.tc_build.specs.declared.generate.TheConstants.{MAX_ROUNDS}
use Rattle.tc_elf.specs.declared.limits.TheConstants.{MAX_FILE}
use Rattle.tc_main.specs.Orders.{IsOrderFor}
use Rattle.tc_main.specs.declared.policy.Policy.TheVariants.{Entry, Nodes}
use Rattle.tc_main.specs.declared.words.Command.{Command}
use Rattle.tc_main.specs.declared.words.Command.TheVariants.{Run, Generate, Demo, Replay, Profile}

-- ---- the forms

-- the arguments of the options of a run
abbrev pub option_words : Options → List (List ℕ)
option_words o = decimal o.workers ∷ decimal o.fuel ∷ decimal o.limit ∷ []

-- the arguments that ask for something
abbrev pub spelling : Command → List (List ℕ)
spelling (Run Entry o) = codes "run" ∷ option_words o
spelling (Run (Nodes nodes bound) o) = codes "nodes" ∷ decimal nodes ∷ decimal bound ∷ option_words o
spelling (Generate rounds) = codes "gen" ∷ decimal rounds ∷ []
spelling (Demo rounds o) = codes "demo" ∷ decimal rounds ∷ decimal o.workers ∷ []
spelling (Replay size o) = codes "replay" ∷ decimal size ∷ option_words o
spelling (Profile size o) = codes "profile" ∷ decimal size ∷ option_words o

-- its numbers are within their limits, as those of options always are; a demonstration has one fuel and one batch limit
abbrev pub IsWithinLimits : Command → Type 0
IsWithinLimits (Run order o) = IsOrderFor o.workers order
IsWithinLimits (Generate rounds) = (1 ≤ rounds) × (rounds ≤ MAX_ROUNDS)
IsWithinLimits (Demo rounds o) = (1 ≤ rounds) × (rounds ≤ MAX_ROUNDS) × (o.fuel ≡ 65536) × (o.limit ≡ 8)
IsWithinLimits (Replay size o) = (1 ≤ size) × (size ≤ MAX_FILE)
IsWithinLimits (Profile size o) = (1 ≤ size) × (size ≤ MAX_FILE)

-- the arguments ask for this
abbrev pub AskFor : List (List ℕ) → Command → Type 0
AskFor words asked = IsWithinLimits asked × (words ≡ spelling asked)

-- the arguments have no form
abbrev pub AskForNothing : List (List ℕ) → Type 0
AskForNothing words = (asked : Command) → ¬ AskFor words asked

-- ---- what is read

-- what is needed from the source: nothing, a guest's file, or a guest's file of so many bytes
-- followed by the text of a history of a run with these options
pub data Needs : Type 0 where
  Nothing : Needs
  GuestFile : Needs
  FileAndHistory : ℕ → Options → Needs

-- what is needed for what is asked; a guest that the program makes needs nothing
abbrev pub needs_of : Command → Needs
needs_of (Run order o) = GuestFile
needs_of (Generate rounds) = Nothing
needs_of (Demo rounds o) = Nothing
needs_of (Replay size o) = FileAndHistory size o
needs_of (Profile size o) = FileAndHistory size o

-- the most bytes that are read for it; the text of a history has 256 MiB at most
abbrev pub most_of : Needs → ℕ
most_of Nothing = 0
most_of GuestFile = MAX_FILE
most_of (FileAndHistory size o) = size + 268435456

-- the bytes are no more than are read for what is asked
abbrev pub FitsInput : Command → List ℕ → Type 0
FitsInput asked bytes = length bytes ≤ most_of (needs_of asked)

-- the arguments ask for something that needs this from the source
pub record AskToRead (words : List (List ℕ)) (needs : Needs) : Type 0 where
  pub asked : Command
  pub asks : AskFor words asked
  pub needs_are : needs_of asked ≡ needs
  pub some : needs ≢ Nothing

-- the arguments ask for something for which the source is read
abbrev pub Reads : List (List ℕ) → Type 0
Reads words = (needs : Needs) × AskToRead words needs
