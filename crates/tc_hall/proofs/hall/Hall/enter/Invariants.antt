use Rattle.tc_queue.specs.Asked.{enter}
use Rattle.tc_hall.specs.Rule.{threads}
use Rattle.tc_hall.proofs.hall.Hall.enter.Given as goal

abbrev pub ghosts-swap_tail : goal.ghosts-swap_tail
ghosts-swap_tail a = record { threads = threads a.self.now.terms; lock = a.lock; ask = enter a.turn.now }
