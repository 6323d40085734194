use Rattle.std.proofs.Common.{◌≡◌, ◌+◌, ◌-◌, ◌/◌, ◌%◌, [], ◌∷◌, drop, ap, ◌∙◌, arith}
use Rattle.tc_journal.proofs.Buffers.{start_of, text_in_front}
use Rattle.tc_journal.proofs.Heads.{IsUtf8-pair}
use Rattle.tc_journal.proofs.buffer.Buffer.put_pair.Goals as goal

pub overflow_sub-at : goal.overflow_sub-at
overflow_sub-at c = omega (arith, start_of c.self.inside.start c.self.inside.bytes.now c.args.self.now c.self.invariant.0 c.self.invariant.1 c.self.view_is)

pub invariant_of-self : goal.invariant_of-self
invariant_of-self c =
    let start = start_of c.self.inside.start c.self.inside.bytes.now c.args.self.now c.self.invariant.0 c.self.invariant.1 c.self.view_is in
    let at : c.self.inside.start - 2 + 2 ≡ c.self.inside.start = omega (arith, start) in
    let n = c.args.number in (
      omega arith,
      omega arith,
      text_in_front ((48 + n / 10) ∷ (48 + n % 10) ∷ []) (drop c.self.inside.start c.self.inside.bytes.now) _ (IsUtf8-pair n c.requires.small) c.self.invariant.2
          (c.write_decimals.ensures ∙ ap (λ k. (48 + n / 10) ∷ (48 + n % 10) ∷ drop k c.self.inside.bytes.now) at),
    )
