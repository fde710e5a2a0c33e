use Rattle.descriptions.proofs.FindingLemmas.{details_then, no_details}
use Rattle.descriptions.proofs.finding_sums.put_details.Goals as goal

pub loop-detail-init : goal.loop-detail-init
loop-detail-init g c = no_details

pub loop-detail-preserved : goal.loop-detail-preserved
loop-detail-preserved g c = details_then c.loop-detail.invariant c.put_detail.ensures
