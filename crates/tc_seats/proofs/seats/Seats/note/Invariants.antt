use Rattle.tc_seats.proofs.seats.Seats.note.Given as goal

abbrev pub ghosts-add : goal.ghosts-add
ghosts-add a = record { call = a.call }
