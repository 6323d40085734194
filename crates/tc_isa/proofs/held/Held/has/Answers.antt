use Rattle.std.proofs.Common.{◌≡◌, nat_lt, false, sym, ◌∙◌, arith}
use Rattle.std.proofs.lemmas.Bool.Decides.{nat_tests}
use Rattle.tc_isa.proofs.SetLemmas.{has_above}
use Rattle.tc_isa.proofs.held.Held.has.Goals as goal

pub returns-else-lock-lt-PLACES : goal.returns-else-lock-lt-PLACES
returns-else-lock-lt-PLACES c =
    let past : nat_lt c.args.lock 32 ≡ false = grind (arith, nat_tests) in
    past ∙ sym (has_above c.args.self c.args.lock (omega arith) c.if-lock-lt-PLACES.false)
