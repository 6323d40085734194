use Rattle.std.proofs.Common.{All, vec_len}
use Rattle.tc_workers.specs.Crew.{AreAtWork}
use Rattle.tc_workers_tests.specs.Scripts.{IsPlaying}
use Rattle.tc_workers_tests.proofs.scripts.players.Given as goal

abbrev pub invariant-loop-worker : goal.invariant-loop-worker
invariant-loop-worker g l = record { work : AreAtWork l.bench l.hired.items; playing : All (λ p. IsPlaying l.bench p.desk p.hand p.end) l.players.items }

abbrev pub decreases-loop-worker : goal.decreases-loop-worker
decreases-loop-worker g l = vec_len l.hired
