use Rattle.std.proofs.Common.{rules, ◌≡◌, ◌^◌, ◌<◌, ◌∙◌, Some, bit_or, sym, ap, subst, arith}
use Rattle.std.proofs.lemmas.Nat.{or_lt, pow_below}
use Rattle.std.proofs.lemmas.Grind.{common_steps}
use Rattle.tc_isa.specs.Sets.{with_lock}
use Rattle.tc_journal.proofs.HeldWord.{Remains, begins, empty_set, next, ends}
use Rattle.tc_journal.proofs.spelling.held.Goals as goal

pub returns-then-is_dash-clause-value : goal.returns-then-is_dash-clause-value
returns-then-is_dash-clause-value c = λ set small e.
    ap Some (c.none-held.ensures ∙ sym (empty_set set c.args.word.now small e (grind (arith, common_steps))))

pub loop-rest-init : goal.loop-rest-init
loop-rest-init c = record {
  bound = omega arith;
  reads = λ set small e.
      let start : Remains c.args.word.now 0 set = begins set c.args.word.now small e (grind (arith, common_steps)) in
      subst (λ held. Remains c.args.word.now held set) (sym c.none-held.ensures) start;
}

pub returns-in_err-lock-clause-value : goal.returns-in_err-lock-clause-value
returns-in_err-lock-clause-value c = λ set small e.
    let first = next _ _ set (c.loop-rest.invariant.reads set small e) (grind (arith, common_steps)) in
    let read = c.lock.ensures.value first.lock first.small (c.split_at_byte.ensures.before ∙ first.is) in
    search rules

pub loop-rest-preserved : goal.loop-rest-preserved
loop-rest-preserved c = record {
  bound =
      let below : bit_or c.loop-rest.held (2 ^ c.in_ok-lock.field-0) < 2 ^ 32 =
      or_lt 32 c.loop-rest.held (2 ^ c.in_ok-lock.field-0) c.loop-rest.invariant.bound (pow_below c.in_ok-lock.field-0 32 c.in_ok-lock.ensures.bound) in
      omega (arith, c.plus-held.ensures.value);
  reads = λ set small e.
      let first = next _ _ set (c.loop-rest.invariant.reads set small e) (grind (arith, common_steps)) in
      let read = c.lock.ensures.value first.lock first.small (c.split_at_byte.ensures.before ∙ first.is) in
      let same : c.plus-held.result ≡ with_lock c.loop-rest.held first.lock = cc (c.plus-held.ensures.value, read, c.in_ok-lock.was) in
      rw (same, c.split_at_byte.ensures.behind) first.rest;
}

pub returns-clause-value : goal.returns-clause-value
returns-clause-value c = λ set small e. ap Some (ends _ _ set (c.loop-rest.invariant.reads set small e) (grind (arith, common_steps)))
