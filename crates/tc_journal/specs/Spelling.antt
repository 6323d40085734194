-- How the words of a line are separated.
use Rattle.std.specs.Prelude.{ℕ, ◌+◌, ◌==◌, List, [], ◌∷◌, ◌++◌, Option, Some, None, take, drop, codes, decimal}
use Rattle.std.specs.List.{position_or_len}
use Rattle.tc_isa.specs.Faults.{fault_number}
use Rattle.tc_journal.specs.Digits.{hex8}
use Rattle.tc_journal.specs.declared.block.End.{End}
use Rattle.tc_journal.specs.declared.block.End.TheVariants.{Wants, Unlocked, Slept, Cut, Exit, Fault, Spent}

-- what comes before the first such byte, or all
unfoldable pub before : ℕ → List ℕ → List ℕ
before stop text = take (position_or_len (λ c. c == stop) text) text

-- what follows the first such byte
unfoldable pub behind : ℕ → List ℕ → List ℕ
behind stop text = drop (position_or_len (λ c. c == stop) text + 1) text

-- the value of the field at the start of a text: the word after its name
abbrev pub value_of : List ℕ → List ℕ
value_of text = before 32 (behind 32 text)

-- what follows that field
abbrev pub rest_of : List ℕ → List ℕ
rest_of text = behind 32 (behind 32 text)

-- the field of a pc, if there is one, before what follows it
abbrev pub from_pc : Option ℕ → List ℕ → List ℕ
from_pc None more = more
from_pc (Some pc) more = codes "pc" ++ 32 ∷ (hex8 pc ++ 32 ∷ more)

-- the first word of an end
abbrev pub end_word : End → List ℕ
end_word (Wants lock) = codes "wants"
end_word (Unlocked lock) = codes "unlocked"
end_word Slept = codes "slept"
end_word Cut = codes "cut"
end_word Exit = codes "exit"
end_word (Fault fault) = codes "fault"
end_word Spent = codes "spent"

-- the number after it, if there is one
abbrev pub end_number : End → List ℕ
end_number (Wants lock) = decimal lock
end_number (Unlocked lock) = decimal lock
end_number Slept = []
end_number Cut = []
end_number Exit = []
end_number (Fault fault) = decimal (fault_number fault)
end_number Spent = []
