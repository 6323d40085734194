use Rattle.std.proofs.Common.{◌≡◌, ◌++◌, ap, ◌∙◌, arith}
use Rattle.std.specs.Prelude.{string_bytes}
use Rattle.tc_report.specs.Report.{guarded_of, lock_text, state_text}
use Rattle.tc_report.proofs.Numbered.{numbered_more}
use Rattle.tc_report.proofs.report.push_locks.Goals as goal

pub loop-number-preserved : goal.loop-number-preserved
loop-number-preserved c =
    let number = c.loop-number.number in
    let lock = c.index-locks-number.result in
    let written : string_bytes c.push_lock.new.out ≡ string_bytes c.loop-number.out ++ lock_text (number, guarded_of c.guard-start.result.0 lock) = c.in_ok-push_lock.ensures in
    let more = written ∙ ap (λ guard. string_bytes c.loop-number.out ++ lock_text (number, guarded_of guard.0 lock)) c.guard-start.ensures.value in
    numbered_more (state_text c.args.image.now) (string_bytes c.args.out.now) _ _ 0 c.args.locks.now number number lock (omega arith) (omega arith) c.index-locks-number.is c.loop-number.invariant more
