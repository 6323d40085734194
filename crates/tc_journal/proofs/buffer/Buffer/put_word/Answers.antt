use Rattle.std.proofs.Common.{◌≡◌, ◌+◌, ◌-◌, ◌++◌, drop, ap, ◌∙◌, arith}
use Rattle.tc_journal.specs.Digits.{hex8}
use Rattle.tc_journal.proofs.Buffers.{start_of, text_in_front, IsUtf8-hex8}
use Rattle.tc_journal.proofs.buffer.Buffer.put_word.Goals as goal

pub invariant_of-self : goal.invariant_of-self
invariant_of-self c =
    let start = start_of c.self.inside.start c.self.inside.bytes.now c.args.self.now c.self.invariant.0 c.self.invariant.1 c.self.view_is in
    let at : c.self.inside.start - 8 + 8 ≡ c.self.inside.start = omega (arith, start) in (
      omega arith,
      omega arith,
      text_in_front (hex8 c.args.word) (drop c.self.inside.start c.self.inside.bytes.now) _ (IsUtf8-hex8 c.args.word) c.self.invariant.2
          (c.write_word.ensures ∙ ap (λ n. hex8 c.args.word ++ drop n c.self.inside.bytes.now) at),
    )

pub overflow_sub-at : goal.overflow_sub-at
overflow_sub-at c = omega (arith, start_of c.self.inside.start c.self.inside.bytes.now c.args.self.now c.self.invariant.0 c.self.invariant.1 c.self.view_is)
