use Rattle.std.proofs.Common.{ℕ, ◌+◌, ◌≤◌, ◌++◌, length, drop, length-drop, ap, ◌∙◌, arith}
use Rattle.std.specs.Prelude.{decimal}
use Rattle.std.proofs.lemmas.Fmt.{IsAscii-decimal, length-decimal-le}
use Rattle.std.proofs.lemmas.Str.{IsUtf8-from_ascii}
use Rattle.tc_journal.proofs.Buffers.{start_of, text_in_front}
use Rattle.tc_journal.proofs.buffer.Buffer.put_number.Goals as goal

pub write_number-self-inside-requires : goal.write_number-self-inside-requires
write_number-self-inside-requires c =
    let long : length (decimal c.args.number) ≤ 20 = length-decimal-le 20 c.args.number (omega arith) (omega (arith, c.ranges.number)) (omega (arith, c.ranges.number)) in
    let start = start_of c.self.inside.start c.self.inside.bytes.now c.args.self.now c.self.invariant.0 c.self.invariant.1 c.self.view_is in
    (omega (arith, long, start), omega arith)

pub invariant_of-self : goal.invariant_of-self
invariant_of-self c =
    let w = c.write_number-self-inside in (
      omega arith,
      omega arith,
      text_in_front (decimal c.args.number) _ _ (IsUtf8-from_ascii _ (IsAscii-decimal c.args.number (omega (arith, c.ranges.number)))) c.self.invariant.2 w.ensures.written,
    )

pub returns : goal.returns
returns c =
    let w = c.write_number-self-inside in
    let start = start_of c.self.inside.start c.self.inside.bytes.now c.args.self.now c.self.invariant.0 c.self.invariant.1 c.self.view_is in
    let size = λ (k : ℕ) (long : length (decimal c.args.number) ≤ k). let fits : length (drop w.result w.new.bytes) ≤ k + length c.args.self.now = omega (arith, long, start, length-drop w.result w.new.bytes) in fits in
    let digits = λ (k : ℕ). length-decimal-le k c.args.number in
    record {
      value = w.ensures.written ∙ ap (λ t. decimal c.args.number ++ t) c.self.view_is;
      len = size 20 (digits 20 (omega arith) (omega (arith, c.ranges.number)) (omega (arith, c.ranges.number)));
      word = λ small. size 10 (digits 10 (omega arith) (omega (arith, small)) (omega (arith, small)));
      lock = λ small. size 2 (digits 2 (omega arith) small (omega arith));
    }
