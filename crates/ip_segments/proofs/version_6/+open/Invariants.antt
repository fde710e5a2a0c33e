use Rattle.ip_segments.proofs.version_6.+open.Given as goal

abbrev pub decreases-open : goal.decreases-open
decreases-open l = l.left
