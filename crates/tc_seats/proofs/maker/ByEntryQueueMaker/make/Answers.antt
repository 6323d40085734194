use Rattle.std.proofs.Common.{ap}
use Rattle.std.proofs.lemmas.Result.{IfOk-weaker}
use Rattle.tc_queue.specs.declared.board.SeatLog.{SeatLog}
use Rattle.tc_seats.proofs.maker.ByEntryQueueMaker.make.Goals as goal

pub returns-clause-seats : goal.returns-clause-seats
returns-clause-seats c =
    IfOk-weaker c.new.result _ _ (λ made opened k d lt. let new = opened.seats k d lt in (new.0, ap (λ (v : SeatLog). v.threads) new.1)) c.new.ensures
