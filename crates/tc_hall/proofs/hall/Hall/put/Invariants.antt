use Rattle.std.proofs.Common.{Some}
use Rattle.tc_hall.proofs.hall.Hall.put.Given as goal

abbrev pub ghosts-put_as : goal.ghosts-put_as
ghosts-put_as a = record { terms = Some a.self.now.terms }
