use Rattle.std.proofs.Common.{◌≡◌, ◌++◌, rules, append_assoc}
use Rattle.tc_profile.specs.Text.{first_line, locks_text, threads_text, last_line}
use Rattle.tc_profile.proofs.text.profile_text.Goals as goal

pub returns : goal.returns
returns c =
    let image = c.args.image.now in
    let h = c.args.profile.now.history in
    let locks = c.in_ok-push_locks.ensures in
    let threads = c.in_ok-push_threads.ensures in
    let written : c.into_bytes.result.items ≡ first_line ++ locks_text image h ++ threads_text image h ++ last_line = search (rules, append_assoc, locks, threads) in
    written
