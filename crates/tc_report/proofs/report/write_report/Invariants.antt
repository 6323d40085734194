use Rattle.std.proofs.Common.{length, min}
use Rattle.tc_report.specs.Logs.{blocks_in, merged}
use Rattle.tc_report.specs.Pieces.{piece_of}
use Rattle.tc_report.specs.declared.piece.TheConstants.{BLOCKS}
use Rattle.tc_report.proofs.report.write_report.Given as goal

-- the history that is written
abbrev pub ghosts-write_around : goal.ghosts-write_around
ghosts-write_around g a = record { lines = piece_of (merged a.logs.now); room = min BLOCKS (length (blocks_in a.logs.now)) }
