use Rattle.std.proofs.Common.{Some}
use Rattle.tc_hall.proofs.hall.Hall.take.Given as goal

abbrev pub ghosts-take_as : goal.ghosts-take_as
ghosts-take_as a = record { terms = Some a.self.now.terms }
