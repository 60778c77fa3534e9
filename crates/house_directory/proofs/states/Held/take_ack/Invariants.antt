use Rattle.house_directory.proofs.states.Held.take_ack.Given as goal

abbrev pub ghosts-advance : goal.ghosts-advance
ghosts-advance a = record { name = a.blank.name; parts = a.blank.parts }
