use Rattle.std.proofs.Common.{Some}
use Rattle.tc_hall.proofs.hall.Hall.claim.Given as goal

abbrev pub ghosts-claim_from : goal.ghosts-claim_from
ghosts-claim_from a = record { terms = Some a.self.now.terms }
