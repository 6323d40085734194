use Rattle.std.proofs.Common.{◌≡◌, ◌++◌, take, map}
use Rattle.tc_isa.specs.Rows.{encoded}
use Rattle.tc_build.proofs.code.Code.push.Given as goal

abbrev pub invariant-loop-instr : goal.invariant-loop-instr
invariant-loop-instr l = l.self-inside.words.items ≡ l.fn.self ++ map encoded (take l.instr-index l.instrs)
