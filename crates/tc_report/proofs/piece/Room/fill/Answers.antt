use Rattle.std.proofs.Common.{◌≡◌, ◌-◌, ◌*◌, ◌++◌, List, Bor, drop, length, map, min, take, length-take-le, sym, ap, ◌∙◌, arith}
use Rattle.std.specs.Fork.{slice_chunk}
use Rattle.tc_journal.specs.Line.{history_text}
use Rattle.tc_journal.specs.declared.block.Block.{Block}
use Rattle.tc_journal.proofs.Merged.{length_placed}
use Rattle.tc_report.specs.Logs.{blocks_in, merged}
use Rattle.tc_report.specs.declared.piece.TheConstants.{BLOCKS}
use Rattle.tc_report.proofs.Chunks.{one_chunk}
use Rattle.tc_report.proofs.piece.Room.fill.Goals as goal

pub invariant_of-result-2 : goal.invariant_of-result-2
invariant_of-result-2 g c =
    let h : List Block = merged c.args.logs.now in
    let all : length h ≡ length (blocks_in c.args.logs.now) = length_placed (blocks_in c.args.logs.now) (blocks_in c.args.logs.now) in
    let from = c.min-from.result in
    let size = c.min.result in
    let place : from ≡ min (c.args.number * BLOCKS) (length h) = omega (arith, all, c.count_of-count.ensures) in
    let count : size ≡ min BLOCKS (length h - from) = omega (arith, all, c.count_of-count.ensures) in
    let chunk = one_chunk BLOCKS (c.args.number * BLOCKS) from size h place count in
    let long : length (take size c.deref_mut.result.now) ≡ size = length-take-le size c.deref_mut.result.now (omega (arith, c.deref_mut.ensures.len, c.args.self.places, c.requires.enough, c.count_of-count.ensures)) in
    let blocks : map (λ (b : Bor Block). b.now) c.fill_row.new.row ≡ slice_chunk h BLOCKS c.args.number = c.fill_row.ensures ∙ ap (λ k. take k (drop from h)) long ∙ chunk in
    record { lines = c.in-Ok.ensures.bytes ∙ (λ i. c.clear.ensures.bytes i ++ history_text (blocks i)) ∙ sym (c.requires.each c.args.number) }
