use Rattle.std.proofs.Common.{◌≡◌, subst, sym}
use Rattle.command_line.specs.Program.{IsReportStatus, is_followed, lag_of}
use Rattle.command_line.proofs.FaultLemmas.{says_fault, says_none}
use Rattle.command_line.proofs.StatusLemmas.{status_range, wider_line, wider_scan}
use Rattle.command_line.proofs.StopLemmas.{halted, more_cause, unhalted}
use Rattle.command_line.proofs.program.scan.Goals as goal

pub returns-in-Ok-clause-output : goal.returns-in-Ok-clause-output
returns-in-Ok-clause-output g c = record {
  shown = λ text shown.
      wider_scan (lag_of c.noted_mode-noted.result) (lag_of c.args.report.mode) c.args.report.json (is_followed c.noted_mode-noted.result) (is_followed c.args.report.mode) text (g.S.Source.left c.scan_in_form.new.source) (g.S.Source.before c.scan_in_form.new.source) (g.K.Sink.taken c.args.sink.now) (g.K.Sink.taken c.scan_in_form.new.sink)
      (g.K.Sink.failures c.scan_in_form.new.sink ≡ g.K.Sink.failures c.args.sink.now) _ c.summary_status.result c.noted_mode-noted.ensures.lag c.noted_mode-noted.ensures.followed (sym c.summary_status.ensures) (c.in-Ok.ensures.shown text shown);
  reported = subst (λ status. IsReportStatus c.args.report.json (g.K.Sink.taken c.args.sink.now) (g.K.Sink.taken c.scan_in_form.new.sink) status) (sym c.summary_status.ensures) c.in-Ok.ensures.reported;
  said = λ two. says_none c.in-Ok.summary.findings c.summary_status.result _ c.summary_status.ensures two;
}

pub returns-in-Err-clause-output : goal.returns-in-Err-clause-output
returns-in-Err-clause-output g c = record {
  shown = λ text shown.
      wider_scan (lag_of c.noted_mode-noted.result) (lag_of c.args.report.mode) c.args.report.json (is_followed c.noted_mode-noted.result) (is_followed c.args.report.mode) text (g.S.Source.left c.scan_in_form.new.source) (g.S.Source.before c.scan_in_form.new.source) (g.K.Sink.taken c.args.sink.now) (g.K.Sink.taken c.scan_in_form.new.sink)
      (g.K.Sink.failures c.scan_in_form.new.sink ≡ g.K.Sink.failures c.args.sink.now) _ c.refuse_scan.result c.noted_mode-noted.ensures.lag c.noted_mode-noted.ensures.followed (sym c.refuse_scan.ensures.status) (c.in-Err.ensures.shown text shown);
  reported = subst (λ status. IsReportStatus c.args.report.json (g.K.Sink.taken c.args.sink.now) (g.K.Sink.taken c.scan_in_form.new.sink) status) (sym c.refuse_scan.ensures.status) c.in-Err.ensures.reported;
  said = λ two.
      says_fault (lag_of c.args.report.mode) c.in-Err.fault c.refuse_scan.result (g.S.Source.left c.args.source.now) (g.S.Source.left c.scan_in_form.new.source) (g.S.Source.before c.scan_in_form.new.source) (g.E.Sink.taken c.args.errors.now) (g.E.Sink.taken c.refuse_scan.new.errors) _
      c.refuse_scan.ensures.status c.refuse_scan.ensures.said
      (λ text shown. wider_line (lag_of c.noted_mode-noted.result) (lag_of c.args.report.mode) text _ _ c.in-Err.fault c.noted_mode-noted.ensures.lag (c.in-Err.ensures.refused text shown)) two;
}

pub returns-in-Err-clause-range : goal.returns-in-Err-clause-range
returns-in-Err-clause-range g c = status_range c.in-Err.fault c.refuse_scan.result c.refuse_scan.ensures.status

pub returns-in-Ok-clause-stopped : goal.returns-in-Ok-clause-stopped
returns-in-Ok-clause-stopped g c three = unhalted c.in-Ok.summary.findings c.summary_status.result _ c.summary_status.ensures three

pub returns-in-Err-clause-stopped : goal.returns-in-Err-clause-stopped
returns-in-Err-clause-stopped g c three =
    halted c.in-Err.fault c.refuse_scan.result c.refuse_scan.ensures.status
    (more_cause _ _ _ _ _ _ c.in-Err.fault (λ failed. failed) (λ failed. failed) (λ none. (c.noted_mode-noted.ensures.workers none.0, none.1)) c.in-Err.ensures.cause) c.refuse_scan.ensures.said three
