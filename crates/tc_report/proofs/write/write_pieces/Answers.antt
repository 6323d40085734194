use Rattle.std.proofs.Common.{rules, arith}
use Rattle.tc_report.specs.Logs.{merged}
use Rattle.tc_report.proofs.Writing.{all_given, piece_fails, piece_given}
use Rattle.tc_report.proofs.write.write_pieces.Goals as goal

pub returns-in-Err : goal.returns-in-Err
returns-in-Err g c = piece_fails _ _ _ (merged c.args.logs.now) c.loop-number.number c.as_bytes.result.now (search rules) c.loop-number.invariant c.in-Err.ensures.wrote

pub loop-number-preserved : goal.loop-number-preserved
loop-number-preserved g c = piece_given _ _ _ (merged c.args.logs.now) c.loop-number.number c.as_bytes.result.now (search rules) c.loop-number.invariant c.in_default.ensures.wrote

pub returns : goal.returns
returns g c = all_given _ _ c.args.logs.now c.loop-number.number (omega arith) c.loop-number.invariant
