use Rattle.std.proofs.Common.{Some}
use Rattle.tc_hall.proofs.hall.Hall.commit.Given as goal

abbrev pub ghosts-seal_as : goal.ghosts-seal_as
ghosts-seal_as a = record { picked = Some a.«package».now }
