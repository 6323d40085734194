use Rattle.std.proofs.Common.{◌≡◌, ◌+◌, ◌-◌, ◌≤◌, vec_len}
use Rattle.tc_io.specs.Calls.{ReadsWithin}
use Rattle.tc_io.specs.Taken.{Takes}
use Rattle.tc_io.proofs.all.read_all.Given as goal

abbrev pub invariant-loop-bytes : goal.invariant-loop-bytes
invariant-loop-bytes g l = record {
  within : vec_len l.bytes ≤ l.limit;
  same_limit : l.limit ≡ l.initial.limit;
  takes : Takes (g.S.Source.stream l.initial.source) (g.S.Source.stream l.source) l.bytes.items;
  reads : ReadsWithin g.S.Source.read_gives (vec_len l.bytes) l.initial.source l.source;
}

abbrev pub decreases-loop-bytes : goal.decreases-loop-bytes
decreases-loop-bytes g l = l.limit + 1 - vec_len l.bytes
