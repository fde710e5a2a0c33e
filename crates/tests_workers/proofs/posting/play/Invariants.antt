use Rattle.tests_workers.proofs.posting.play.Given as goal

abbrev pub ghosts-play_in : goal.ghosts-play_in
ghosts-play_in g a = record { names = a.blanks }
