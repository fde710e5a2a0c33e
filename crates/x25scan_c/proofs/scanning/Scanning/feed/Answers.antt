use Rattle.std.proofs.Common.{◌∙◌, ◌++◌, ap, subst, sym}
use Rattle.annotated_trace.specs.Printers.{IsRefusalOf}
use Rattle.line_model.specs.text.Text.{early, ended_lines, good_lines}
use Rattle.live_report.specs.Found.{HasFound, found as findings_of}
use Rattle.x25scan_c.proofs.ScanLemmas.{found_before, keeps_line, rows_before}
use Rattle.x25scan_c.proofs.scanning.Scanning.feed.Goals as goal
use Rattle.x25scan_c.specs.Rows.{AddsRows}
use Rattle.x25scan_c.specs.Waits.{refusals, waiting}

pub returns-in-Err-clause-refused : goal.returns-in-Err-clause-refused
returns-in-Err-clause-refused c text was two = keeps_line _ c.in-Err.fault _ _ (λ line kind e. subst (IsRefusalOf (early (text ++ c.args.chunk.now))) e (c.in-Err.ensures.refused text was)) c.refuse.ensures.number c.refuse.ensures.kept two

pub returns-in-Err-clause-found : goal.returns-in-Err-clause-found
returns-in-Err-clause-found c text was prints two =
    subst (λ w. HasFound (waiting c.args.self.now.found) (waiting w) (findings_of text) (findings_of (text ++ c.args.chunk.now))) (sym c.refuse.ensures.same.1)
    (found_before c.in-Err.fault _ _ _ _ _ c.refuse.ensures.number two (c.in-Err.ensures.found text was prints))

pub returns-in-Err-clause-before : goal.returns-in-Err-clause-before
returns-in-Err-clause-before c text was prints two same =
    let kept = c.refuse.ensures.same.2 in
    let lines = ended_lines (text ++ c.args.chunk.now) in
    subst (λ w. AddsRows (ended_lines text) (good_lines (early (text ++ c.args.chunk.now)) lines) (waiting c.args.self.now.text) (waiting w)) (sym kept)
    (rows_before _ c.in-Err.fault _ (ended_lines text) lines _ _ (c.in-Err.ensures.refused text was) c.refuse.ensures.number two (c.in-Err.ensures.before text was prints (sym (ap (λ w. refusals w) kept) ∙ same)))
