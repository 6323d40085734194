use Rattle.tc_journal.proofs.Heads.{two_digits}
use Rattle.tc_journal.proofs.buffer.decimals_of.Goals as goal

pub returns-clause-tens : goal.returns-clause-tens
returns-clause-tens c = (two_digits c.args.number c.requires).0

pub returns-clause-ones : goal.returns-clause-ones
returns-clause-ones c = (two_digits c.args.number c.requires).1
