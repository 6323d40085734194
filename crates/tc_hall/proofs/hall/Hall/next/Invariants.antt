use Rattle.tc_queue.specs.Asked.{next}
use Rattle.tc_hall.specs.Rule.{threads}
use Rattle.tc_hall.proofs.hall.Hall.next.Given as goal

abbrev pub ghosts-load_link : goal.ghosts-load_link
ghosts-load_link a = record { threads = threads a.self.now.terms; lock = a.lock; ask = next a.own.now }
