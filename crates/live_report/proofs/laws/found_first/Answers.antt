use Rattle.live_report.proofs.LawLemmas.{growth, reported}
use Rattle.live_report.proofs.laws.found_first.Goals as goal

pub returns-clause-growth : goal.returns-clause-growth
returns-clause-growth c = growth

pub returns-clause-report : goal.returns-clause-report
returns-clause-report c = reported
