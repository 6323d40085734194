use Rattle.std.proofs.Common.{All}
use Rattle.tc_workers_tests.specs.Scripts.{IsPlaying}
use Rattle.tc_workers_tests.proofs.scripts.follow.Given as goal

abbrev pub invariant-loop-desk : goal.invariant-loop-desk
invariant-loop-desk g l = All (λ p. IsPlaying l.bench p.desk p.hand p.end) l.players
