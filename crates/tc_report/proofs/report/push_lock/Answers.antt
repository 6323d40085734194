use Rattle.std.proofs.Common.{◌≡◌, ◌++◌, ap, ◌∙◌, length, arith}
use Rattle.std.specs.Prelude.{string_bytes}
use Rattle.tc_report.specs.Report.{lock_line, data_line_at}
use Rattle.tc_journal.proofs.Ranges.{text_more}
use Rattle.tc_report.proofs.report.push_lock.Goals as goal

pub loop-i-preserved : goal.loop-i-preserved
loop-i-preserved c =
    let lock = c.args.lock.now in
    let written : string_bytes c.push_data_at.new.out ≡ string_bytes c.loop-i.out ++ data_line_at c.args.start c.bytes-bytes.result.now c.loop-i.i = c.in_ok-push_data_at.ensures in
    let more = written ∙ ap (λ bytes. string_bytes c.loop-i.out ++ data_line_at c.args.start bytes c.loop-i.i) c.bytes-bytes.ensures in
    text_more (data_line_at c.args.start lock.bytes) (string_bytes c.args.out.now ++ lock_line c.args.number lock.sections lock.broken (length lock.bytes)) _ _ 0 c.loop-i.i c.loop-i.i (omega arith) c.loop-i.invariant more
