use Rattle.tc_queue.specs.Asked.{enter}
use Rattle.tc_queue.proofs.queue.Queue.enter.Given as goal

abbrev pub ghosts-swap_tail : goal.ghosts-swap_tail
ghosts-swap_tail a = record { ask = enter a.turn.now }
