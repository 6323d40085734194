use Rattle.std.proofs.Common.{◌≡◌, ◌+◌, ◌*◌, ◌<◌, ◌++◌, ℕ, zero, suc, refl, ap, ◌∙◌, arith}
use Rattle.std.specs.Prelude.{string_bytes}
use Rattle.tc_build.specs.Generator.{generated}
use Rattle.tc_elf.specs.Shown.{guard_at}
use Rattle.tc_report.specs.Report.{guarded_of, lock_text, state_text}
use Rattle.tc_report.proofs.Numbered.{numbered_more}
use Rattle.tc_report.proofs.summary.push_guards.Goals as goal

-- where the guards of the generator's guest stand
guard_start : (rounds k : ℕ) → k < 4 → 0x20000 + 16 * k ≡ (guard_at (generated rounds) k).start
guard_start rounds zero few = refl
guard_start rounds (suc zero) few = refl
guard_start rounds (suc (suc zero)) few = refl
guard_start rounds (suc (suc (suc zero))) few = refl
guard_start rounds (suc (suc (suc (suc k)))) few = absurd (omega (arith, few))

pub loop-number-preserved : goal.loop-number-preserved
loop-number-preserved c = λ rounds.
    let number = c.loop-number.number in
    let lock = c.index-locks-number.result in
    let written = c.in_ok-push_lock.ensures ∙ ap (λ start. string_bytes c.loop-number.out ++ lock_text (number, guarded_of start lock)) (guard_start rounds number (omega arith)) in
    numbered_more (state_text (generated rounds)) (string_bytes c.args.out.now) _ _ 0 c.args.locks.now number number lock (omega arith) (omega arith) c.index-locks-number.is (c.loop-number.invariant rounds) written
