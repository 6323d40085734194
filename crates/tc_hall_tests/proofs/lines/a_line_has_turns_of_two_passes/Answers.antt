use Rattle.std.proofs.Common.{[], ap}
use Rattle.tc_hall.specs.declared.board.Knows.{Knows}
use Rattle.tc_hall.proofs.Stops.{stop_told}
use Rattle.tc_hall_tests.proofs.lines.a_line_has_turns_of_two_passes.Goals as goal

pub take_turns-requires-clause-stopped : goal.take_turns-requires-clause-stopped
take_turns-requires-clause-stopped g c =
    (stop_told c.in_ok-hall.zero.knows c.stop.new.pass.knows [] (ap (λ (v : Knows). v.calls) c.stop.ensures.stop), stop_told c.in_ok-hall.one.knows c.stop-2.new.pass.knows [] (ap (λ (v : Knows). v.calls) c.stop-2.ensures.stop))
