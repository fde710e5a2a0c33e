use Rattle.tests_workers.proofs.posting.check_growth.Given as goal

abbrev pub ghosts-check_in : goal.ghosts-check_in
ghosts-check_in g a = record { names = a.blanks }
