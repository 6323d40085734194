use Rattle.tc_queue.specs.Asked.{leave}
use Rattle.tc_queue.proofs.queue.Queue.leave.Given as goal

abbrev pub ghosts-clear_tail : goal.ghosts-clear_tail
ghosts-clear_tail a = record { ask = leave a.own.now }
