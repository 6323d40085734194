use Rattle.std.specs.Prelude.{◌≡◌, take}
use Rattle.tc_segment.specs.Kept.{sums_of}
use Rattle.tc_segment.proofs.record.sums_of.Given as goal

abbrev pub invariant-loop-record : goal.invariant-loop-record
invariant-loop-record l = l.sums ≡ sums_of (take l.record-index l.records)
