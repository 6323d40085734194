use Rattle.tc_queue.specs.Asked.{link}
use Rattle.tc_queue.proofs.queue.Queue.link.Given as goal

abbrev pub ghosts-store_link : goal.ghosts-store_link
ghosts-store_link a = record { ask = link a.before.now a.own.now }
