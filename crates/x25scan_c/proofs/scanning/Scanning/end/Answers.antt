use Rattle.std.proofs.Common.{subst}
use Rattle.live_report.specs.Reports.{IsRefusal}
use Rattle.x25scan_c.proofs.ScanLemmas.{keeps_end, keeps_line}
use Rattle.x25scan_c.proofs.scanning.Scanning.end.Goals as goal

pub returns-in-Err-clause-refused : goal.returns-in-Err-clause-refused
returns-in-Err-clause-refused c text was prints two = keeps_line _ c.in-Err.fault _ _ (λ line kind e. subst (IsRefusal text) e (c.in-Err.ensures.refused text was prints)) c.refuse.ensures.number c.refuse.ensures.kept two

pub returns-in-Err-clause-stopped : goal.returns-in-Err-clause-stopped
returns-in-Err-clause-stopped c text was prints two = keeps_end text c.in-Err.fault _ _ (c.in-Err.ensures.stopped text was prints) c.refuse.ensures.number c.refuse.ensures.kept two
