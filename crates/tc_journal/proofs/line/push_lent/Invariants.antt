use Rattle.std.proofs.Common.{◌≡◌, ◌++◌, ◌+◌, ◌*◌, ◌-◌, ◌≤◌, length, map, take}
use Rattle.std.specs.Prelude.{string_bytes, string_capacity, string_len}
use Rattle.tc_journal.specs.Line.{history_text}
use Rattle.tc_journal.specs.declared.buffer.TheConstants.{LINE}
use Rattle.tc_journal.proofs.line.push_lent.Given as goal

abbrev pub invariant-loop-done : goal.invariant-loop-done
invariant-loop-done l = record {
  within : l.done ≤ length l.fn.history;
  written : string_bytes l.text ≡ string_bytes l.fn.text ++ history_text (map (λ b. b.now) (take l.done l.fn.history));
  capacity : string_capacity l.fn.text ≤ string_capacity l.text;
  len : string_len l.text ≤ string_len l.fn.text + LINE * l.done;
}

abbrev pub decreases-loop-done : goal.decreases-loop-done
decreases-loop-done l = length l.fn.history - l.done
