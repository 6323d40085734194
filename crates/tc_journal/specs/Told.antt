-- A block with its pc, and without; and what a line says of a block.
use Rattle.std.specs.Prelude.{ℕ, Bool, Option, Some, None, if◌then◌else◌}
use Rattle.tc_journal.specs.declared.block.Block.{Block}
use Rattle.tc_journal.specs.declared.block.BlockV1.{BlockV1}

abbrev pub with_pc : BlockV1 → ℕ → Block
with_pc b pc = record { stamp = b.stamp; thread = b.thread; turns = b.turns; held = b.held; kind = b.kind; worker = b.worker; pc = pc; end = b.end }

abbrev pub without_pc : Block → BlockV1
without_pc b = record { stamp = b.stamp; thread = b.thread; turns = b.turns; held = b.held; kind = b.kind; worker = b.worker; end = b.end }

-- what a line says of a block: no pc, if the line has the old form
pub record Told : Type 0 where
  pub block : BlockV1
  pub pc : Option ℕ

-- the block of which a line says this, with the pc 0 if it has none
abbrev pub pc_or_0 : Option ℕ → ℕ
pc_or_0 None = 0
pc_or_0 (Some pc) = pc

abbrev pub block_of : Told → Block
block_of t = with_pc t.block (pc_or_0 t.pc)

-- what the line of a block says, and the old line of one
abbrev pub told : Block → Told
told b = record { block = without_pc b; pc = Some b.pc }

abbrev pub told_v1 : BlockV1 → Told
told_v1 b = record { block = b; pc = None }

-- what a line with the pc or without says of a block
abbrev pub told_if : Bool → Block → Told
told_if has_pc b = record { block = without_pc b; pc = if has_pc then Some b.pc else None }
