use Rattle.house_tests.proofs.purges.a_million_purges_walk_no_table.Given as goal

abbrev pub ghosts-steps_to : goal.ghosts-steps_to
ghosts-steps_to g a = record { name = a.blank.name; parts = a.blank.parts }
