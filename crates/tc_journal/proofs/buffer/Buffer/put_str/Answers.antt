use Rattle.std.proofs.Common.{◌≡◌, ◌+◌, ◌-◌, ◌++◌, length, drop, ap, ◌∙◌, arith}
use Rattle.tc_journal.proofs.Buffers.{start_of, text_in_front}
use Rattle.tc_journal.proofs.buffer.Buffer.put_str.Goals as goal

pub invariant_of-self : goal.invariant_of-self
invariant_of-self c =
    let start = start_of c.self.inside.start c.self.inside.bytes.now c.args.self.now c.self.invariant.0 c.self.invariant.1 c.self.view_is in
    let at : c.self.inside.start - length c.args.text.now + length c.args.text.now ≡ c.self.inside.start = omega (arith, start) in
    let written = rw c.as_bytes.ensures.value at c.write_text.ensures in (
      omega arith,
      omega arith,
      text_in_front c.args.text.now (drop c.self.inside.start c.self.inside.bytes.now) _ c.utf8.text c.self.invariant.2
          (written ∙ ap (λ n. c.args.text.now ++ drop n c.self.inside.bytes.now) at),
    )

pub overflow_sub-at : goal.overflow_sub-at
overflow_sub-at c = omega (arith, start_of c.self.inside.start c.self.inside.bytes.now c.args.self.now c.self.invariant.0 c.self.invariant.1 c.self.view_is)
