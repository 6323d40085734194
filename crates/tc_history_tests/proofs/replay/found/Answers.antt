use Rattle.std.proofs.Common.{sym, subst}
use Rattle.tc_journal.specs.History.{IsInOrder}
use Rattle.tc_replay.proofs.Through.{in_order_from}
use Rattle.tc_history_tests.proofs.replay.found.Goals as goal

pub check-requires : goal.check-requires
check-requires c =
    subst IsInOrder (sym c.deref.ensures.value) (in_order_from 0 c.in_ok-history.history.items c.in_ok-history.ensures.ok.history)
