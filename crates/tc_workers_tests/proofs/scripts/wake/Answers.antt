use Rattle.std.proofs.Common.{◌≡◌, ℕ, List, Option, None, length, ap, subst, ◌∙◌, rules}
use Rattle.tc_combiner.specs.View.{DeskView}
use Rattle.tc_workers.proofs.Desks.{length_without}
use Rattle.tc_workers_tests.proofs.Playing.{woken}
use Rattle.tc_workers_tests.proofs.scripts.wake.Goals as goal

pub claim_thread-requires-after_bounds : goal.claim_thread-requires-after_bounds
claim_thread-requires-after_bounds g c κs within =
    let none : c.args.player.now.end ≡ None = search rules in
    let empty : c.args.player.now.hand ≡ None = search rules in
    let moved = subst (λ (ss : List (Option ℕ)). c.advance.new.self ≡ record c.args.player.now.desk { sleepers = ss; now = c.args.turn }) c.sleepers.ensures.value c.advance.ensures in
    woken c.args.bench.now c.args.player.now.desk c.advance.new.self c.args.player.now.hand c.args.player.now.end c.due.new.self c.args.turn c.requires none empty moved
    (ap (λ (s : List (Option ℕ)). length s) c.due.ensures.taken ∙ (length_without c.due.result c.sleepers-2.result.now ∙ ap (λ (s : List (Option ℕ)). length s) (c.sleepers-2.ensures.value ∙ ap (λ (d : DeskView). d.sleepers) moved)))
