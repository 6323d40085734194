use Rattle.std.proofs.Common.{◌∙◌}
use Rattle.tc_turn.proofs.Numbers.{number_text}
use Rattle.tc_turn.proofs.answer.text_number.Goals as goal

pub returns-in-Some : goal.returns-in-Some
returns-in-Some c = c.number_from.ensures ∙ number_text c.args.image.now c.args.addr c.args.width c.in-Some.bytes.now c.in-Some.ensures.each
