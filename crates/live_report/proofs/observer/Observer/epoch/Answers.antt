use Rattle.std.proofs.Common.{◌∙◌}
use Rattle.live_report.proofs.observer.Observer.epoch.Goals as goal

pub returns-clause-walked : goal.returns-clause-walked
returns-clause-walked g c i rows walked = walked.holds.epoch ∙ walked.cut.epoch
