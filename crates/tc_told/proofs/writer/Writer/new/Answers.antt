use Rattle.tc_told.proofs.Writing.{starts}
use Rattle.tc_told.proofs.writer.Writer.new.Goals as goal

pub returns-clause-written : goal.returns-clause-written
returns-clause-written c =
    starts c.args.image.now c.args.fuel c.in_ok-core.core c.in_ok-next.next.items c.new-2.result.items
    c.in_ok-core.ensures.core c.in_ok-next.ensures.each c.new-2.ensures.items
