use Rattle.std.proofs.Common.{◌+◌, ◌*◌, arith}
use Rattle.std.proofs.lemmas.List.FromFn.{map-range_with_len_more}
use Rattle.tc_elf.specs.Elf.{segment_at}
use Rattle.tc_elf.proofs.header.segments_from.Goals as goal

pub loop-i-preserved : goal.loop-i-preserved
loop-i-preserved c =
    let more = map-range_with_len_more (λ i. segment_at c.args.bytes.now (c.args.at + 32 * i)) 0 c.loop-i.i c.loop-i.i (omega arith) in
    cc (more, c.loop-i.invariant, c.in_ok-push.ensures.items, c.at.ensures)
