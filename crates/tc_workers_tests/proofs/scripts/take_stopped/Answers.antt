use Rattle.std.proofs.Common.{[], ap, inl}
use Rattle.tc_hall.specs.declared.board.Knows.{Knows}
use Rattle.tc_hall.proofs.Stops.{stop_told}
use Rattle.tc_workers_tests.proofs.scripts.take_stopped.Goals as goal

pub take-requires-clause-stands : goal.take-requires-clause-stands
take-requires-clause-stands g c lined = inl (stop_told c.args.pass.now.knows c.stop.new.pass.knows [] (ap (λ (v : Knows). v.calls) c.stop.ensures.stop))
