use Rattle.std.proofs.Common.{◌-◌, ◌++◌, drop, ap, ◌∙◌, arith}
use Rattle.tc_journal.proofs.Buffers.{start_of, text_in_front}
use Rattle.tc_journal.proofs.Heads.{row_in_front}
use Rattle.tc_journal.proofs.buffer.Buffer.put_row.Goals as goal

pub invariant_of-self : goal.invariant_of-self
invariant_of-self c =
    let start = start_of c.self.inside.start c.self.inside.bytes.now c.args.self.now c.self.invariant.0 c.self.invariant.1 c.self.view_is in (
      omega arith,
      omega arith,
      text_in_front (drop c.args.from c.args.row.now) (drop c.self.inside.start c.self.inside.bytes.now) _ c.requires.text.1 c.self.invariant.2
          (row_in_front c.args.row.now c.self.inside.bytes.now c.write_text.new.bytes c.self.inside.start (c.self.inside.start - 16) c.args.from c.write_text.ensures (omega (arith, start)) (omega arith)),
    )

pub returns : goal.returns
returns c =
    let start = start_of c.self.inside.start c.self.inside.bytes.now c.args.self.now c.self.invariant.0 c.self.invariant.1 c.self.view_is in
    row_in_front c.args.row.now c.self.inside.bytes.now c.write_text.new.bytes c.self.inside.start (c.self.inside.start - 16) c.args.from c.write_text.ensures (omega (arith, start)) (omega arith)
    ∙ ap (λ t. drop c.args.from c.args.row.now ++ t) c.self.view_is
