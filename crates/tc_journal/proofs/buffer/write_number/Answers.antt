use Rattle.std.proofs.Common.{◌≡◌, ℕ, ◌+◌, ◌-◌, ◌<◌, length, ap, arith}
use Rattle.std.specs.Prelude.{decimal}
use Rattle.std.proofs.lemmas.Fmt.{decimal_digit}
use Rattle.std.proofs.lemmas.List.{drop-set}
use Rattle.tc_journal.proofs.buffer.write_number.Goals as goal

one : (n : ℕ) → n < 10 → length (decimal n) ≡ 1
one n small = ap length (decimal_digit n small)

pub overflow_sub-bytes : goal.overflow_sub-bytes
overflow_sub-bytes c = omega (arith, one c.args.number c.if-number-lt10.true)

pub bounds-bytes-end : goal.bounds-bytes-end
bounds-bytes-end c = omega (arith, one c.args.number c.if-number-lt10.true)

pub overflow_sub-result : goal.overflow_sub-result
overflow_sub-result c = omega (arith, one c.args.number c.if-number-lt10.true)

pub returns-then-number-lt10-clause-start : goal.returns-then-number-lt10-clause-start
returns-then-number-lt10-clause-start c = omega (arith, one c.args.number c.if-number-lt10.true)

pub returns-then-number-lt10-clause-written : goal.returns-then-number-lt10-clause-written
returns-then-number-lt10-clause-written c =
    let long = one c.args.number c.if-number-lt10.true in
    let e : c.args.end - 1 + 1 ≡ c.args.end = omega arith in
    rw (drop-set c.args.bytes.now (c.args.end - 1) _ (omega arith), e, decimal_digit c.args.number c.if-number-lt10.true)
