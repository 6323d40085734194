use Rattle.std.proofs.Common.{arith}
use Rattle.tc_journal.proofs.HexWord.{pair}
use Rattle.tc_journal.proofs.buffer.digits_of.Goals as goal

pub returns-clause-high : goal.returns-clause-high
returns-clause-high c = (pair c.args.byte (omega (arith, c.ranges.byte))).0

pub returns-clause-low : goal.returns-clause-low
returns-clause-low c = (pair c.args.byte (omega (arith, c.ranges.byte))).1
