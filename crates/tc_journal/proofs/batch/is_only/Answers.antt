use Rattle.std.proofs.Common.{◌≡◌, false, ◌∙◌, sym, arith}
use Rattle.std.specs.Prelude.{nat_lt}
use Rattle.std.proofs.lemmas.Bool.Decides.{nat_tests}
use Rattle.tc_journal.proofs.Batching.{no_set}
use Rattle.tc_journal.proofs.batch.is_only.Goals as goal

pub returns-else-lock-lt-PLACES : goal.returns-else-lock-lt-PLACES
returns-else-lock-lt-PLACES c =
    let past = c.if-lock-lt-PLACES.false in
    let test : nat_lt c.args.lock 32 ≡ false = grind (arith, nat_tests) in
    test ∙ sym (no_set c.args.held c.args.lock (omega (arith, c.bits.ensures, c.bits.type_inv)) past)
