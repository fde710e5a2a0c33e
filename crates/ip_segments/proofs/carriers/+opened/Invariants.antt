use Rattle.ip_segments.proofs.carriers.+opened.Given as goal

abbrev pub decreases-opened : goal.decreases-opened
decreases-opened l = l.left
