use Rattle.std.proofs.Common.{◌≡◌, ◌+◌, ◌-◌, ◌%◌, ◌/◌, [], ◌++◌, drop, ap, ◌∙◌, append-nil, arith}
use Rattle.std.specs.Prelude.{codes, decimal}
use Rattle.std.proofs.lemmas.List.{drop_all}
use Rattle.tc_journal.proofs.Heads.{short_front}
use Rattle.tc_journal.proofs.head.Head.keep.Goals as goal

pub write_digits-at-requires : goal.write_digits-at-requires
write_digits-at-requires c = (omega (arith, short_front c.args.stamp (omega (arith, c.requires))), omega arith)

pub overflow_sub-start : goal.overflow_sub-start
overflow_sub-start c = omega (arith, short_front c.args.stamp (omega (arith, c.requires)), c.write_digits-at.ensures.start)

pub invariant_of-self : goal.invariant_of-self
invariant_of-self c =
    let n = c.args.stamp / 100 in
    let w = c.write_digits-at in
    let short = short_front c.args.stamp (omega (arith, c.requires)) in
    let at : w.result - 6 + 6 ≡ w.result = omega (arith, short, w.ensures.start) in
    let same : (c.args.stamp - c.args.stamp % 100) / 100 ≡ n = omega arith in
    let none : drop 16 c.self.inside.row ≡ [] = drop_all 16 c.self.inside.row (omega arith) in
    let digits : drop w.result w.new.buf ≡ decimal n = w.ensures.written ∙ ap (λ t. decimal n ++ t) none ∙ append-nil (decimal n) in (
      omega (arith, short, w.ensures.start),
      omega (arith, c.requires),
      omega (arith, c.requires),
      omega arith,
      rw same (c.write_text.ensures ∙ ap (λ k. codes "block " ++ drop k w.new.buf) at ∙ ap (λ t. codes "block " ++ t) digits),
    )
