use Rattle.std.proofs.Common.{◌≡◌, ◌++◌, take}
use Rattle.std.specs.Prelude.{string_bytes, codes}
use Rattle.std.specs.List.{flat_map}
use Rattle.tc_journal.specs.Digits.{hex2, hex8}
use Rattle.tc_report.proofs.report.push_data.Given as goal

abbrev pub invariant-loop-byte : goal.invariant-loop-byte
invariant-loop-byte l = string_bytes l.out ≡ string_bytes l.fn.out ++ (codes "data " ++ hex8 l.start ++ codes " ") ++ flat_map hex2 (take l.byte-index l.bytes)
