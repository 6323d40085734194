use Rattle.std.proofs.Common.{◌+◌, arith}
use Rattle.tc_report.proofs.Rows.{count_more, count_within}
use Rattle.tc_report.proofs.row.count_of.Goals as goal

pub overflow_add-count : goal.overflow_add-count
overflow_add-count c =
    let i = c.loop-log.log-index in
    let more = count_more c.args.logs.now i c.log-item.result c.loop-log-test.true c.log-item.is in
    omega (arith, more, count_within c.args.logs.now (i + 1), c.requires.few, c.loop-log.invariant)

pub loop-log-preserved : goal.loop-log-preserved
loop-log-preserved c =
    let more = count_more c.args.logs.now c.loop-log.log-index c.log-item.result c.loop-log-test.true c.log-item.is in
    omega (arith, more, c.loop-log.invariant)
