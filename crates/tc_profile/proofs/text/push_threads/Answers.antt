use Rattle.std.proofs.Common.{◌≡◌, ◌++◌, ap, ◌∙◌, arith}
use Rattle.std.specs.Prelude.{string_bytes}
use Rattle.tc_journal.proofs.Ranges.{text_more}
use Rattle.tc_profile.specs.Text.{thread_line, thread_text}
use Rattle.tc_profile.proofs.text.push_threads.Goals as goal

pub loop-number-preserved : goal.loop-number-preserved
loop-number-preserved c =
    let h = c.args.profile.now.history in
    let number = c.loop-number.number in
    let written : string_bytes c.push_thread.new.out ≡ string_bytes c.loop-number.out ++ thread_text h number =
    c.in_ok-push_thread.ensures ∙ ap (λ numbers. string_bytes c.loop-number.out ++ thread_line number numbers) c.thread-numbers.ensures in
    text_more (thread_text h) (string_bytes c.args.out.now) _ _ 0 number number (omega arith) c.loop-number.invariant written
