use Rattle.tc_turn.proofs.Vocabulary.{◌∙◌, ◌-◌, ◌≤◌, arith, nat_tests, and_parts}
use Rattle.tc_turn.proofs.Numbers.{number_there}
use Rattle.tc_turn.proofs.number.number_within.Goals as goal

pub returns-in-Some : goal.returns-in-Some
returns-in-Some c =
    let low : c.args.start ≤ c.args.addr = (let there = c.requires.there in grind (arith, nat_tests, and_parts)) in
    c.in-Some.ensures
    ∙ number_there c.args.start c.args.bytes.now (c.args.addr - c.args.start) 0 c.args.addr c.args.width (omega (arith, low))
