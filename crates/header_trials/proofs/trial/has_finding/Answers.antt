use Rattle.std.proofs.Common.{◌∙◌}
use Rattle.header_trials.proofs.EventLemmas.{finds}
use Rattle.header_trials.proofs.trial.has_finding.Goals as goal

pub returns : goal.returns
returns c = c.has_finding.ensures ∙ finds c.args.events.now
