use Rattle.std.proofs.Common.{◌≡◌, ◌++◌}
use Rattle.std.specs.Prelude.{string_bytes, codes, decimal}
use Rattle.std.specs.List.{range_with_len, flat_map}
use Rattle.tc_report.specs.Report.{register_text}
use Rattle.tc_report.proofs.report.push_registers.Given as goal

abbrev pub invariant-loop-i : goal.invariant-loop-i
invariant-loop-i l = string_bytes l.out ≡ string_bytes l.fn.out ++ (codes "x" ++ decimal l.from) ++ flat_map (register_text l.regs l.from) (range_with_len 0 l.i)
