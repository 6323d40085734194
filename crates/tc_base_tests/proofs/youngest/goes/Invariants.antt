use Rattle.tc_queue.specs.View.{IsOwnSeatOf}
use Rattle.tc_queue.specs.Words.{IsTurn}
use Rattle.tc_base_tests.proofs.youngest.goes.Given as goal

abbrev pub invariant-loop-go : goal.invariant-loop-go
invariant-loop-go g l = record {
  seat : IsOwnSeatOf l.queue l.seat;
  turn : IsTurn 4 l.own;
}
