use Rattle.std.proofs.Common.{◌∙◌, ap}
use Rattle.line_model.specs.work.Book.{totals_of}
use Rattle.report_merge.proofs.GatheredLemmas.{counts}
use Rattle.report_merge.proofs.reports.BundleReportReports.totals.Goals as goal

pub returns : goal.returns
returns g c = c.totals.ensures ∙ (counts _ _ c.self.invariant.gathered ∙ ap totals_of c.self.view_is)
