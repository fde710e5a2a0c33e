use Rattle.report_merge.proofs.GatheredLemmas.{bundle_sorted}
use Rattle.report_merge.proofs.reports.BundleReport.sorted.Goals as goal

pub invariant_of-result : goal.invariant_of-result
invariant_of-result g c = bundle_sorted _ _ _ _ c.self.invariant c.in_ok-sort.ensures
