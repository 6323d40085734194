use Rattle.tc_run.proofs.run.Goals as goal
use Rattle.tc_run.proofs.Law.{run_law}

-- src/lib.rt:10:1
pub returns : goal.returns
returns c = record { runs = run_law }
