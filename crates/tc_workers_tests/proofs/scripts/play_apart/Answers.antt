use Rattle.tc_workers.proofs.Hiring.{same_lines}
use Rattle.tc_workers_tests.proofs.scripts.play_apart.Goals as goal

pub play_at-requires-clause-lines : goal.play_at-requires-clause-lines
play_at-requires-clause-lines g c κs within = same_lines _ _ _ _ _ _ c.in_ok-queues.ensures c.in_ok-queues-2.ensures

pub play_at-requires-clause-order : goal.play_at-requires-clause-order
play_at-requires-clause-order g c κs within = λ i q b. tt
