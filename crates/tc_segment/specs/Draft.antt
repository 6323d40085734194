-- What the records of a block have in common, in small numbers.
use Rattle.std.specs.Prelude.{◌%◌}
use Rattle.tc_journal.specs.declared.block.Block.{Block}
use Rattle.tc_journal.specs.declared.block.End.{End}
use Rattle.tc_journal.specs.declared.block.End.TheVariants as end
use Rattle.tc_segment.specs.declared.draft.Draft.{Draft}
use Rattle.tc_segment.specs.declared.draft.Ending.{Ending}
use Rattle.tc_segment.specs.declared.draft.Ending.TheVariants as ending

-- the number of a lock is cut to its low byte
abbrev pub ending_of : End → Ending
ending_of (end.Wants k) = ending.Wants (k % 256)
ending_of (end.Unlocked k) = ending.Unlocked (k % 256)
ending_of end.Slept = ending.Slept
ending_of end.Cut = ending.Cut
ending_of end.Exit = ending.Exit
ending_of (end.Fault f) = ending.Fault f
ending_of end.Spent = ending.Spent

abbrev pub end_of : Ending → End
end_of (ending.Wants k) = end.Wants k
end_of (ending.Unlocked k) = end.Unlocked k
end_of ending.Slept = end.Slept
end_of ending.Cut = end.Cut
end_of ending.Exit = end.Exit
end_of (ending.Fault f) = end.Fault f
end_of ending.Spent = end.Spent

abbrev pub drafted : Block → Draft
drafted b = record { stamp = b.stamp; thread = b.thread; held = b.held; worker = b.worker; pc = b.pc; turns = b.turns % 65536; ending = ending_of b.end; kind = b.kind }

-- the block of a draft
abbrev pub block_from : Draft → Block
block_from d = record { stamp = d.stamp; thread = d.thread; turns = d.turns; held = d.held; kind = d.kind; worker = d.worker; pc = d.pc; end = end_of d.ending }
