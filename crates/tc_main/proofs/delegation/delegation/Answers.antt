use Rattle.tc_told.proofs.Strict.{run_written}
use Rattle.tc_main.proofs.Legal.{keeps_rules, limits_of}
use Rattle.tc_main.proofs.delegation.delegation.Goals as goal

pub returns : goal.returns
returns c = record { written = λ image o results legal. run_written image (limits_of o) o.fuel results.history legal.history (keeps_rules image o results legal) }
