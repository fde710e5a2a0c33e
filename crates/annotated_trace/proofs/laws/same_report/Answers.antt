use Rattle.annotated_trace.proofs.SameReport.{reported}
use Rattle.annotated_trace.proofs.MarkLemmas.{marked}
use Rattle.annotated_trace.proofs.laws.same_report.Goals as goal

pub returns-clause-report : goal.returns-clause-report
returns-clause-report c = reported

pub returns-clause-marks : goal.returns-clause-marks
returns-clause-marks c = marked
