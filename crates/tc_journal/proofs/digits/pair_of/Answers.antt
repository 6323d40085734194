use Rattle.std.proofs.Common.{arith}
use Rattle.tc_journal.proofs.Buffers.{IsUtf8-hex2}
use Rattle.tc_journal.proofs.digits.pair_of.Goals as goal

pub returns-clause-text : goal.returns-clause-text
returns-clause-text c = IsUtf8-hex2 c.args.byte (omega (arith, c.ranges.byte))
