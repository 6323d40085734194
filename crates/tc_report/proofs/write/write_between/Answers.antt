use Rattle.std.proofs.Common.{◌++◌}
use Rattle.std.proofs.lemmas.Result.{err_from_is_err_and}
use Rattle.tc_io.specs.Taken.{Gives}
use Rattle.tc_report.specs.Pieces.{lines_in}
use Rattle.tc_report.specs.Written.{Wrote}
use Rattle.tc_report.proofs.Writing.{gives_more, fails_early, fails_later, wrote_later}
use Rattle.tc_report.proofs.write.write_between.Goals as goal

pub returns-in_err-write_lines : goal.returns-in_err-write_lines
returns-in_err-write_lines g c =
    let before = g.K.Sink.stream c.args.sink.now in
    let mid = g.K.Sink.stream c.write_text.new.sink in
    let now = g.K.Sink.stream c.write_lines.new.sink in
    let head : Gives before mid c.args.head.now = c.in_ok-write_text.ensures.wrote in
    let result = err_from_is_err_and c.from_residual-in_err-write_lines.result c.from_residual-in_err-write_lines.ensures.1 in
    rw result.1 (fails_early before now _ c.args.tail.now (fails_later before mid now _ _ head c.in_err-write_lines.ensures))

pub returns : goal.returns
returns g c =
    let before = g.K.Sink.stream c.args.sink.now in
    let mid = g.K.Sink.stream c.write_text.new.sink in
    let later = g.K.Sink.stream c.write_lines.new.sink in
    let now = g.K.Sink.stream c.write_text-2.new.sink in
    let head : Gives before mid c.args.head.now = c.in_ok-write_text.ensures.wrote in
    let front = gives_more before mid later _ _ head c.in_ok-write_lines.ensures in
    let last : Wrote later now c.args.tail.now c.write_text-2.result = c.write_text-2.ensures.wrote in
    wrote_later before later now (c.args.head.now ++ lines_in c.args.logs.now) c.args.tail.now c.write_text-2.result front last
