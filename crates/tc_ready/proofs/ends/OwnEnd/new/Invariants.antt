use Rattle.tc_ready.proofs.ends.OwnEnd.new.Given as goal

abbrev pub ghosts-open_as : goal.ghosts-open_as
ghosts-open_as a = record { threads = a.threads }
