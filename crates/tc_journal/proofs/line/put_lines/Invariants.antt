use Rattle.std.proofs.Common.{◌≡◌, ◌+◌, ◌≤◌, ◌*◌, drop, length, map}
use Rattle.tc_journal.specs.Line as spec
use Rattle.tc_journal.specs.declared.buffer.TheConstants.{LINE}
use Rattle.tc_journal.proofs.line.put_lines.Given as goal

abbrev pub invariant-loop-left : goal.invariant-loop-left
invariant-loop-left l =
    (l.left ≤ length l.fn.blocks)
    × (l.lines ≡ spec.history_text (map (λ b. b.now) (drop l.left l.fn.blocks)))
    × (length l.lines + LINE * l.left ≤ LINE * length l.fn.blocks)

abbrev pub decreases-loop-left : goal.decreases-loop-left
decreases-loop-left l = l.left
