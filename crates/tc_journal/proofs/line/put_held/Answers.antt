use Rattle.std.proofs.Common.{rules, ◌≡◌, ◌++◌, ap, ◌∙◌, arith}
use Rattle.std.specs.Prelude.{codes}
use Rattle.tc_isa.specs.Sets.{locks_of}
use Rattle.tc_journal.specs.Line.{numbers_text}
use Rattle.tc_journal.proofs.Locks.{begun_below, next_below, all_written, locks_of-none}
use Rattle.tc_journal.proofs.line.put_held.Goals as goal

pub returns-in_default-clause-value : goal.returns-in_default-clause-value
returns-in_default-clause-value c =
    let dash : numbers_text (locks_of c.args.held) ≡ codes "-" = ap (λ h. numbers_text (locks_of h)) c.in_default.ensures.value ∙ ap numbers_text locks_of-none in
    rw dash (search rules)

pub loop-lock-init : goal.loop-lock-init
loop-lock-init c =
    begun_below c.args.held c.in-Some.greatest c.less-left.result _ _ c.in-Some.ensures.value (omega (arith, c.in-Some.ensures.bound)) c.less-left.ensures.each (cc)
    (c.put_number.ensures.lock (omega (arith, c.from.ensures, c.in-Some.ensures.bound)))

pub loop-lock-preserved : goal.loop-lock-preserved
loop-lock-preserved c =
    let lock = c.in-Some-greatest.lock in
    next_below c.args.held lock c.loop-lock.left c.less-left-in-Some-greatest.result c.loop-lock.line _ _ c.loop-lock.invariant c.in-Some-greatest.ensures.value c.less-left-in-Some-greatest.ensures.each (cc)
    (let short = c.put_number-in-Some-greatest.ensures.lock (omega (arith, c.from-in-Some-greatest.ensures, c.in-Some-greatest.ensures.bound)) in omega (arith, short, c.put_str-in-Some-greatest.ensures.len))

pub returns-clause-value : goal.returns-clause-value
returns-clause-value c = c.put_str-2.ensures.value ∙ ap (λ t. codes " held " ++ t) (all_written c.args.held c.loop-lock.left c.loop-lock.line c.args.line.now c.loop-lock.invariant c.in_default-greatest.ensures.value)
