use Rattle.std.proofs.Common.{◌∙◌, sym, ap}
use Rattle.std.specs.Prelude.{None, if◌then◌else◌}
use Rattle.tc_isa.specs.Sets.{has}
use Rattle.tc_journal.specs.Batch.{top_below}
use Rattle.tc_journal.proofs.Greatest.{top_greatest}
use Rattle.tc_journal.proofs.block.Block.takes.Goals as goal

pub returns-then-is_section : goal.returns-then-is_section
returns-then-is_section c =
    let block = c.args.self.now in
    sym (top_greatest block.held c.greatest.result c.greatest.ensures.value c.greatest.ensures.bound)
    ∙ ap (λ b. if b then top_below 32 (has block.held) else None) (sym c.if-is_section.true ∙ c.is_section.ensures)
