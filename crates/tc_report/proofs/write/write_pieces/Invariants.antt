use Rattle.std.proofs.Common.{◌*◌, take}
use Rattle.tc_io.specs.Taken.{Gives}
use Rattle.tc_journal.specs.Line.{history_text}
use Rattle.tc_report.specs.Logs.{merged}
use Rattle.tc_report.specs.declared.piece.TheConstants.{BLOCKS}
use Rattle.tc_report.proofs.write.write_pieces.Given as goal

abbrev pub invariant-loop-number : goal.invariant-loop-number
invariant-loop-number g l = Gives (g.K.Sink.stream l.fn.sink) (g.K.Sink.stream l.sink) (history_text (take (l.number * BLOCKS) (merged l.fn.logs)))
