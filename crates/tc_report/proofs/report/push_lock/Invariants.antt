use Rattle.std.proofs.Common.{◌≡◌, ◌++◌, length}
use Rattle.std.specs.Prelude.{string_bytes}
use Rattle.std.specs.List.{range_with_len, flat_map}
use Rattle.tc_report.specs.Report.{lock_line, data_line_at}
use Rattle.tc_report.proofs.report.push_lock.Given as goal

abbrev pub invariant-loop-i : goal.invariant-loop-i
invariant-loop-i l =
    string_bytes l.out ≡ string_bytes l.fn.out ++ lock_line l.number l.lock.sections l.lock.broken (length l.lock.bytes)
    ++ flat_map (data_line_at l.start l.lock.bytes) (range_with_len 0 l.i)
