use Rattle.std.proofs.Common.{◌≡◌, ◌++◌, ap, ◌∙◌, arith}
use Rattle.std.specs.Prelude.{string_bytes}
use Rattle.tc_journal.proofs.Ranges.{text_more}
use Rattle.tc_profile.specs.Text.{lock_line, lock_text}
use Rattle.tc_profile.proofs.text.push_locks.Goals as goal

pub loop-number-preserved : goal.loop-number-preserved
loop-number-preserved c =
    let h = c.args.profile.now.history in
    let number = c.loop-number.number in
    let written : string_bytes c.push_lock.new.out ≡ string_bytes c.loop-number.out ++ lock_text h number =
    c.in_ok-push_lock.ensures ∙ ap (λ numbers. string_bytes c.loop-number.out ++ lock_line number numbers) c.lock-numbers.ensures in
    text_more (lock_text h) (string_bytes c.args.out.now) _ _ 0 number number (omega arith) c.loop-number.invariant written
