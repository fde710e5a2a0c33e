use Rattle.std.proofs.Common.{◌≡◌, map, take}
use Rattle.header_trials.specs.TriedLines.{tried_by}
use Rattle.header_trials.proofs.tried_lines.outcomes.Given as goal

abbrev pub invariant-loop-trial : goal.invariant-loop-trial
invariant-loop-trial g l = record { tried : l.tried.items ≡ map tried_by (take l.trial-index l.trials) }
