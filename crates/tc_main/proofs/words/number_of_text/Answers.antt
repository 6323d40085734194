use Rattle.std.proofs.Common.{◌≡◌, ap, arith}
use Rattle.std.specs.Prelude.{decimal}
use Rattle.std.proofs.lemmas.Fmt.{parse-decimal}
use Rattle.tc_main.proofs.words.number_of_text.Goals as goal
use Rattle.tc_main.proofs.words.number_of_text.Goals.{else-number-limit-via-then-number-limit+else-same, else-number-limit-via-else-number-limit}

pub returns-in_default-clause-none : goal.returns-in_default-clause-none
returns-in_default-clause-none c = λ n le e. c.in_default.not-Ok _ (parse-decimal 32 n c.args.text.now c.parse.result (omega arith) (omega arith) e c.parse.ensures.value.0)

pub returns-else-number-limit-clause-none : goal.returns-else-number-limit-clause-none
returns-else-number-limit-clause-none c = λ n le e.
    let again = parse-decimal 32 n c.args.text.now c.parse.result (omega arith) (omega arith) e c.parse.ensures.value.0 in
    let same : c.in-Ok.number ≡ n = cc (again, c.in-Ok.is) in
    elim c.else-number-limit.branch [
      | else-number-limit-via-then-number-limit+else-same w ↦ grind (arith, w.if-same, c.is_decimal-same.ensures, e, ap decimal same)
      | else-number-limit-via-else-number-limit w ↦ absurd (omega (arith, w.if-number-limit.false))
    ]
