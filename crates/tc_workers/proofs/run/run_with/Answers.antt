use Rattle.tc_workers.proofs.Hiring.{same_lines}
use Rattle.tc_workers.proofs.run.run_with.Goals as goal

pub run_opened-requires-clause-lines : goal.run_opened-requires-clause-lines
run_opened-requires-clause-lines g c κs within = same_lines _ _ _ _ _ _ c.requires c.in_ok-queues.ensures

pub run_opened-requires-clause-order : goal.run_opened-requires-clause-order
run_opened-requires-clause-order g c κs within = λ i q b. tt
