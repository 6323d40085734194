use Rattle.tc_queue.specs.Asked.{link}
use Rattle.tc_hall.specs.Rule.{threads}
use Rattle.tc_hall.proofs.hall.Hall.link.Given as goal

abbrev pub ghosts-store_link : goal.ghosts-store_link
ghosts-store_link a = record { threads = threads a.self.now.terms; lock = a.lock; ask = link a.before.now a.own.now }
