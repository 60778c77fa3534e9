use Rattle.house_tests.proofs.purges.steps_are_deletions_and_what_goes_with_them.Given as goal

abbrev pub ghosts-steps_to : goal.ghosts-steps_to
ghosts-steps_to g a = record { name = a.blank.name; parts = a.blank.parts }
