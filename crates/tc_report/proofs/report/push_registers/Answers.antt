use Rattle.std.proofs.Common.{◌++◌, arith}
use Rattle.std.specs.Prelude.{codes, decimal, string_bytes}
use Rattle.tc_report.specs.Report.{register_text}
use Rattle.tc_journal.proofs.Ranges.{text_more}
use Rattle.tc_report.proofs.report.push_registers.Goals as goal

pub loop-i-preserved : goal.loop-i-preserved
loop-i-preserved c = text_more (register_text c.args.regs.now c.args.from) (string_bytes c.args.out.now ++ (codes "x" ++ decimal c.args.from)) _ _ 0 c.loop-i.i c.loop-i.i (omega arith) c.loop-i.invariant c.in_ok-push_register.ensures
