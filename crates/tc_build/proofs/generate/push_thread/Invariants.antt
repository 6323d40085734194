use Rattle.std.proofs.Common.{◌∷◌}
use Rattle.std.specs.List.{flat_map}
use Rattle.tc_isa.specs.declared.instr.Instr.TheVariants.{Lui}
use Rattle.tc_build.specs.Code.{Adds}
use Rattle.tc_build.specs.Generator.{round_code, numbers_below}
use Rattle.tc_build.proofs.generate.push_thread.Given as goal

abbrev pub invariant-loop-round : goal.invariant-loop-round
invariant-loop-round l = Adds l.fn.code l.code (Lui 5 0x20000 ∷ flat_map (round_code l.thread) (numbers_below l.round))
