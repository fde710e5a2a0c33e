use Rattle.descriptions.proofs.FindingLemmas.{sums_put}
use Rattle.descriptions.proofs.finding_sums.put_finding_sums.Goals as goal

pub returns : goal.returns
returns g c = sums_put c.args.report.now c.put_sums.ensures c.put_details.ensures
