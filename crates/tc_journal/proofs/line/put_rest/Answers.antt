use Rattle.std.proofs.Common.{◌≡◌, ◌++◌, sym}
use Rattle.std.specs.Prelude.{codes, decimal}
use Rattle.tc_isa.specs.Sets.{locks_of}
use Rattle.tc_journal.specs.Line.{numbers_text, kind_text, end_text, pc_text}
use Rattle.tc_journal.specs.Told.{Told, without_pc}
use Rattle.tc_journal.proofs.Fields.{words}
use Rattle.tc_journal.proofs.line.put_rest.Goals as goal

pub returns-clause-value : goal.returns-clause-value
returns-clause-value c t is =
    let told : Told = record { block = without_pc c.args.block.now; pc = c.args.pc } in
    let b = told.block in
    let end : c.put_end.new.line ≡ codes " end " ++ (end_text b.end ++ (codes "\n" ++ c.args.line.now)) = cc in
    let kind : c.put_kind.new.line ≡ codes " kind " ++ (kind_text b.kind ++ (codes " worker " ++ (decimal b.worker ++ (pc_text told.pc ++ c.put_end.new.line)))) = cc in
    let held : c.put_held.new.line ≡ codes " held " ++ (numbers_text (locks_of b.held) ++ c.put_kind.new.line) = cc in
    let rest : c.put_str-2.new.self ≡ codes " thread " ++ (decimal b.thread ++ (codes " turns " ++ (decimal b.turns ++ c.put_held.new.line))) = cc in
    rw (is, rest, held, kind, end) (sym (words told c.args.line.now))
