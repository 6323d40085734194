-- The printed line of a block, and the old line, which has no pc.
use Rattle.std.specs.Prelude.{ℕ, List, [], ◌∷◌, ◌++◌, Option, Some, None, codes, decimal}
use Rattle.std.specs.List.{flat_map}
use Rattle.tc_isa.specs.Faults.{fault_number}
use Rattle.tc_isa.specs.Sets.{locks_of}
use Rattle.tc_journal.specs.Digits.{hex8}
use Rattle.tc_journal.specs.Told.{Told, told}
use Rattle.tc_journal.specs.declared.block.Block.{Block}
use Rattle.tc_journal.specs.declared.block.Kind.{Kind}
use Rattle.tc_journal.specs.declared.block.Kind.TheVariants.{Start, On, Taken, Adopted, Granted}
use Rattle.tc_journal.specs.declared.block.End.{End}
use Rattle.tc_journal.specs.declared.block.End.TheVariants.{Wants, Unlocked, Slept, Cut, Exit, Fault, Spent}

abbrev pub kind_text : Kind → List ℕ
kind_text Start = codes "start"
kind_text On = codes "on"
kind_text Taken = codes "taken"
kind_text Adopted = codes "adopted"
kind_text Granted = codes "granted"

abbrev pub end_text : End → List ℕ
end_text (Wants lock) = codes "wants " ++ decimal lock
end_text (Unlocked lock) = codes "unlocked " ++ decimal lock
end_text Slept = codes "slept"
end_text Cut = codes "cut"
end_text Exit = codes "exit"
end_text (Fault fault) = codes "fault " ++ decimal (fault_number fault)
end_text Spent = codes "spent"

-- a number after a comma
unfoldable pub comma_text : ℕ → List ℕ
comma_text n = codes "," ++ decimal n

-- numbers with commas between them, or a dash
abbrev pub numbers_text : List ℕ → List ℕ
numbers_text [] = codes "-"
numbers_text (n ∷ ns) = decimal n ++ flat_map comma_text ns

-- the pc, which an old line does not have
abbrev pub pc_text : Option ℕ → List ℕ
pc_text None = []
pc_text (Some pc) = codes " pc " ++ hex8 pc

-- the line that says this, without its newline
unfoldable pub told_text : Told → List ℕ
told_text t =
    codes "block " ++ decimal t.block.stamp ++ codes " thread " ++ decimal t.block.thread ++ codes " turns " ++ decimal t.block.turns
    ++ codes " held " ++ numbers_text (locks_of t.block.held) ++ codes " kind " ++ kind_text t.block.kind ++ codes " worker " ++ decimal t.block.worker
    ++ pc_text t.pc ++ codes " end " ++ end_text t.block.end

abbrev pub told_line : Told → List ℕ
told_line t = told_text t ++ 10 ∷ []

-- the line of a block
abbrev pub block_line : Block → List ℕ
block_line b = told_line (told b)

-- the lines of blocks, given what each line says
abbrev pub lines_text : {B : Type 0} → (B → Told) → List B → List ℕ
lines_text told_of blocks = flat_map (λ b. told_line (told_of b)) blocks

-- the lines of the blocks of a history
abbrev pub history_text : List Block → List ℕ
history_text blocks = flat_map block_line blocks
