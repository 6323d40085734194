use Rattle.tc_queue.specs.Asked.{next}
use Rattle.tc_queue.proofs.queue.Queue.next.Given as goal

abbrev pub ghosts-load_link : goal.ghosts-load_link
ghosts-load_link a = record { ask = next a.own.now }
