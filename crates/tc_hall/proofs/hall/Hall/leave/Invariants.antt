use Rattle.tc_queue.specs.Asked.{leave}
use Rattle.tc_hall.specs.Rule.{threads}
use Rattle.tc_hall.proofs.hall.Hall.leave.Given as goal

abbrev pub ghosts-clear_tail : goal.ghosts-clear_tail
ghosts-clear_tail a = record { threads = threads a.self.now.terms; lock = a.lock; ask = leave a.own.now }
