use Rattle.std.proofs.Common.{◌≡◌}
use Rattle.tc_hall.proofs.Vocabulary.{PassView}
use Rattle.tc_hall.proofs.Dealt.{last_two}
use Rattle.tc_hall_tests.proofs.lines.open.Goals as goal

pub returns-clause-own : goal.returns-clause-own
returns-clause-own g c =
    let hall = c.in_ok-hall.hall in
    let P : PassView → Type 0 = λ p. p.table ≡ hall.table in
    let both = last_two P c.in_ok-hall.passes.items c.pop.new.self.items c.pop-2.new.self.items c.pop.result c.pop-2.result c.expect-other.result c.expect-zero.result
    (λ i q e. (c.in_ok-hall.ensures.passes.each i q e).0) c.pop.ensures.items c.expect-other.ensures c.pop-2.ensures.items c.expect-zero.ensures in
    both
