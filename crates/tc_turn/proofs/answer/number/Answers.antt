use Rattle.std.proofs.Common.{sym}
use Rattle.tc_turn.proofs.Numbers.{number_nothing}
use Rattle.tc_turn.proofs.answer.number.Goals as goal

pub returns-in-Nothing : goal.returns-in-Nothing
returns-in-Nothing g c = rw c.in-Nothing.is (sym (number_nothing c.args.addr c.args.width))
