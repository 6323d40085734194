use Rattle.std.proofs.Common.{◌/◌, ◌++◌, ap, ◌∙◌, arith}
use Rattle.std.specs.Prelude.{codes, decimal}
use Rattle.tc_journal.proofs.Heads.{IsUtf8-head, parts}
use Rattle.tc_journal.proofs.head.Head.put.Goals as goal

pub put_row-requires-clause-text : goal.put_row-requires-clause-text
put_row-requires-clause-text c =
    let kept = c.self.invariant in
    (kept.0, rw kept.4 (IsUtf8-head (c.self.inside.first / 100) (omega (arith, kept.2))))

pub returns-clause-value : goal.returns-clause-value
returns-clause-value c =
    let kept = c.self.invariant in
    c.put_row.ensures ∙ ap (λ t. t ++ c.put_pair.new.self) kept.4
    ∙ ap (λ t. (codes "block " ++ decimal (c.self.inside.first / 100)) ++ t) c.put_pair.ensures
    ∙ parts c.self.inside.first c.args.stamp c.args.line.now kept.3 kept.1 (omega (arith, c.requires.of)) (omega (arith, c.requires.of)) (omega (arith, c.ranges.stamp))
