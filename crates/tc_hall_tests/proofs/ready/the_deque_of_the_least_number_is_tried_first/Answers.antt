use Rattle.std.proofs.Common.{◌≡◌}
use Rattle.tc_hall.specs.PassView.{PassView}
use Rattle.tc_hall.proofs.Dealt.{popped}
use Rattle.tc_hall_tests.proofs.ready.the_deque_of_the_least_number_is_tried_first.Goals as goal

pub see_crew-requires-clause-own : goal.see_crew-requires-clause-own
see_crew-requires-clause-own g c =
    let own : PassView → Type 0 = λ p. p.table ≡ c.in_ok-hall.hall.table in
    let dealt = c.in_ok-hall.ensures.passes in
    (popped own c.in_ok-hall.passes.items c.pop.new.self.items c.pop.result c.expect-pass.result (λ i q e. (dealt.each i q e).0) c.pop.ensures.items c.expect-pass.ensures).0
