use Rattle.std.proofs.Common.{◌≡◌, ℕ, ◌+◌, ◌*◌, subst, arith}
use Rattle.tc_build.specs.Code.{Adds, addition, negated}
use Rattle.tc_build.proofs.Coding.{both}
use Rattle.tc_build.proofs.generate.push_transfer.Goals as goal

pub returns : goal.returns
returns c =
    let less : c.wrapping_neg.result ≡ negated c.args.amount = omega arith in
    let taken = subst (λ (n : ℕ). Adds c.lock-2.new.self c.add.new.self (addition (16 * c.args.lock + 4) n)) less c.in_ok-add.ensures in
    both _ _ _ _ _ (both _ _ _ _ _ (both _ _ _ _ _ (both _ _ _ _ _ (both _ _ _ _ _ c.in_ok-lock.ensures c.in_ok-lock-2.ensures)
    taken) c.in_ok-add-2.ensures) c.in_ok-unlock.ensures) c.in_ok-unlock-2.ensures
