use Rattle.std.proofs.Common.{◌≡◌, map, take}
use Rattle.tc_report.specs.Logs.{put_from}
use Rattle.tc_report.proofs.row.place.Given as goal

abbrev pub invariant-loop-block : goal.invariant-loop-block
invariant-loop-block l = map (λ b. b.now) l.row ≡ put_from l.from (map (λ b. b.now) l.initial.row) (take l.block-index l.blocks)
