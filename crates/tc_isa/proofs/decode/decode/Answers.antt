use Rattle.std.proofs.Common.{sym, ◌∙◌}
use Rattle.tc_isa.proofs.Laws.{again}
use Rattle.tc_isa.proofs.Sound.{sound}
use Rattle.tc_isa.proofs.decode.decode.Goals as goal

pub returns-clause-some : goal.returns-clause-some
returns-clause-some c = simp (c.instr_of.ensures, c.of.ensures.split.whole) (sound c.of.result c.of.ensures.split.within)

pub returns-clause-only : goal.returns-clause-only
returns-clause-only c = λ i d. c.instr_of.ensures ∙ (again i d.0).1 c.of.result c.of.ensures.split.within (sym c.of.ensures.split.whole ∙ d.1)
