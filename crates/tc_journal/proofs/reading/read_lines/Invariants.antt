use Rattle.std.proofs.Common.{◌≡◌, ◌++◌, length}
use Rattle.tc_journal.specs.History.{IsToldFrom}
use Rattle.tc_journal.specs.Line.{lines_text}
use Rattle.tc_journal.proofs.Histories.{HasAhead}
use Rattle.tc_journal.proofs.reading.read_lines.Given as goal

abbrev pub invariant-loop-rest : goal.invariant-loop-rest
invariant-loop-rest g l = record {
  history : IsToldFrom g.B.Form.told 0 l.blocks.items;
  lines : l.fn.bytes ≡ lines_text g.B.Form.told l.blocks.items ++ l.rest;
  ahead : HasAhead g.B.Form.told l.fn.bytes l.blocks.items l.rest;
}

abbrev pub decreases-loop-rest : goal.decreases-loop-rest
decreases-loop-rest g l = length l.rest
