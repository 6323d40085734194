use Rattle.std.proofs.Common.{◌++◌, ap, refl, sym, arith}
use Rattle.std.specs.Prelude.{codes}
use Rattle.std.proofs.lemmas.Fmt.{decimal_digit}
use Rattle.tc_journal.proofs.head.Head.new.Goals as goal

pub invariant_of-result : goal.invariant_of-result
invariant_of-result c = (omega arith, omega arith, omega arith, refl, ap (λ t. codes "block " ++ t) (sym (decimal_digit 1 (omega arith))))
