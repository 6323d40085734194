use Rattle.std.proofs.Common.{[], ap, inl}
use Rattle.tc_hall.specs.declared.board.Knows.{Knows}
use Rattle.tc_hall.proofs.Stops.{stop_told}
use Rattle.tc_workers_tests.proofs.stops.enter_line.Goals as goal

pub enter-requires-clause-stands : goal.enter-requires-clause-stands
enter-requires-clause-stands g c i of lined = inl (stop_told c.args.pass.now.knows c.stop.new.pass.knows [] (ap (λ (v : Knows). v.calls) c.stop.ensures.stop))
