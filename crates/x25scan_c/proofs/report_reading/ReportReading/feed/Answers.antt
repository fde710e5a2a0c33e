use Rattle.std.proofs.Common.{◌++◌, [], subst, sym}
use Rattle.live_report.proofs.LiveLemmas.{on_sound}
use Rattle.live_report.specs.Found.{IsFoundBy, found as findings_of}
use Rattle.x25scan_c.proofs.ScanLemmas.{found_on, none_on}
use Rattle.x25scan_c.proofs.report_reading.ReportReading.feed.Goals as goal
use Rattle.x25scan_c.specs.Waits.{waiting}

pub returns-in-Ok-clause-fed : goal.returns-in-Ok-clause-fed
returns-in-Ok-clause-fed g c text w =
    on_sound c.feed-answer.result _ _ _ c.err-self.ensures.value (c.feed-answer.ensures.represented text w.0) (λ fed none. (fed, none))

pub returns-in-Ok-clause-found : goal.returns-in-Ok-clause-found
returns-in-Ok-clause-found g c text w =
    subst (λ xs. IsFoundBy c.feed-answer.result (waiting c.args.found.now) xs (findings_of text) (findings_of (text ++ c.args.chunk.now))) (sym c.in-Ok.ensures.appended)
    (found_on c.feed-answer.result (waiting c.args.found.now) c.found.result.now _ _
    (subst (λ xs. IsFoundBy c.feed-answer.result [] xs (findings_of text) (findings_of (text ++ c.args.chunk.now))) (sym c.found.ensures) (c.feed-answer.ensures.found text w.0)))

pub returns-in-Err-clause-found : goal.returns-in-Err-clause-found
returns-in-Err-clause-found g c text w = none_on c.feed-answer.result _ _ _ _ _ c.in-Err.ensures.same (c.feed-answer.ensures.found text w.0)
