use Rattle.std.proofs.Common.{◌+◌, ◌*◌, arith}
use Rattle.std.proofs.lemmas.List.FromFn.{map-range_with_len_more}
use Rattle.tc_elf.specs.Notes.{entry_in}
use Rattle.tc_elf.proofs.layout.entries_from.Goals as goal

pub loop-i-preserved : goal.loop-i-preserved
loop-i-preserved c =
    let more = map-range_with_len_more (λ i. entry_in c.args.descriptor.now (c.args.at + 8 * i)) 0 c.loop-i.i c.loop-i.i (omega arith) in
    cc (more, c.loop-i.invariant, c.in_ok-push.ensures.items, c.word_at.ensures, c.word_at-in-loop-i.ensures)
