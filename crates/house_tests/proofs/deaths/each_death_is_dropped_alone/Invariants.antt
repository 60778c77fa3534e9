use Rattle.house_tests.proofs.deaths.each_death_is_dropped_alone.Given as goal

abbrev pub ghosts-steps_to : goal.ghosts-steps_to
ghosts-steps_to g a = record { name = a.blank.name; parts = a.blank.parts }
