use Rattle.std.proofs.Common.{ap, ◌∙◌, ◌==◌}
use Rattle.std.proofs.lemmas.Nat.Bits.{bit_at-zero}
use Rattle.tc_isa.specs.Sets.{has}
use Rattle.tc_exec.proofs.Ascending.{is_above_greatest, is_above_none}
use Rattle.tc_exec.proofs.guest_calls.is_above_held.Goals as goal

-- src/calls.rt:29:1
pub returns-in-Some : goal.returns-in-Some
returns-in-Some c =
    let held = c.in-Some.ensures in
    is_above_greatest (has c.args.held) c.in-Some.greatest c.args.lock held.bound held.value.0 held.value.1

-- src/calls.rt:29:1
pub returns-in-None : goal.returns-in-None
returns-in-None c =
    is_above_none (has c.args.held) c.args.lock (λ k. ap (λ held. has held k) c.in-None.ensures.value ∙ ap (λ bit. bit == 1) (bit_at-zero k))
