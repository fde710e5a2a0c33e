use Rattle.std.proofs.Common.{subst}
use Rattle.live_report.specs.Reports.{IsRefusal}
use Rattle.trace_text.specs.EndedPart.{ended_part as ended}
use Rattle.x25scan_c.proofs.ScanLemmas.{keeps_line}
use Rattle.x25scan_c.proofs.scanning.Scanning.report.Goals as goal

pub returns-in-Err-clause-refused : goal.returns-in-Err-clause-refused
returns-in-Err-clause-refused c text was two = keeps_line _ c.in-Err.fault _ _ (λ line kind e. subst (IsRefusal (ended text)) e (c.in-Err.ensures.refused text was)) c.refuse.ensures.number c.refuse.ensures.kept two
