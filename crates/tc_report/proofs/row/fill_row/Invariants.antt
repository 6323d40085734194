use Rattle.std.proofs.Common.{◌≡◌, ◌+◌, filter, length, map, take}
use Rattle.tc_report.specs.Logs.{blocks_in, is_between, put_from}
use Rattle.tc_report.proofs.row.fill_row.Given as goal

abbrev pub invariant-loop-log : goal.invariant-loop-log
invariant-loop-log l =
    map (λ b. b.now) l.row ≡ put_from l.from (map (λ b. b.now) l.fn.row) (filter (is_between l.from (l.from + length l.fn.row)) (blocks_in (take l.log-index l.logs)))
