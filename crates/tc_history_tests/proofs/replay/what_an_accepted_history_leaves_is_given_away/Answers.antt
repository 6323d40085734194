use Rattle.std.proofs.Common.{sym, subst}
use Rattle.tc_journal.specs.History.{IsInOrder}
use Rattle.tc_replay.proofs.Through.{in_order_from}
use Rattle.tc_history_tests.proofs.replay.what_an_accepted_history_leaves_is_given_away.Goals as goal

pub check_left-requires : goal.check_left-requires
check_left-requires g c =
    subst IsInOrder (sym c.deref.ensures.value) (in_order_from 0 c.in_ok-history.history.items c.in_ok-history.ensures.ok.history)
