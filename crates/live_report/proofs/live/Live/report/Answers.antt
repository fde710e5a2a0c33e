use Rattle.std.proofs.Common.{◌∙◌, ◌+◌, ap, length, refl, subst, sym, Err}
use Rattle.line_model.specs.text.Text.{ended_lines}
use Rattle.std.proofs.lemmas.Result.{err_from_is_err_and}
use Rattle.trace_text.proofs.SourceLemmas.{passed_on, same_fault}
use Rattle.line_model.specs.declared.fault.Fault.TheVariants.{Write}
use Rattle.line_model.specs.declared.totals.Summary.{Summary}
use Rattle.line_model.specs.traces.Traces.{trace_report}
use Rattle.trace_text.specs.EndedPart.{ended_part}
use Rattle.live_report.specs.Reports.{IsMissing, IsRefusal, IsReportFault}
use Rattle.live_report.proofs.FollowLemmas.{text_report}
use Rattle.live_report.proofs.ReportLemmas.{is_fault, no_fault, refuses, reported_by, taken_by, untaken, unwritten}
use Rattle.std.proofs.lemmas.Result.{IfOk-from_err}
use Rattle.live_report.proofs.live.Live.report.Goals as goal

pub returns-in_err-write_report-clause-taken : goal.returns-in_err-write_report-clause-taken
returns-in_err-write_report-clause-taken g c text s = passed_on c.from_residual-in_err-write_report.result c.in_err-write_report.field-0.0 _ c.from_residual-in_err-write_report.ensures.1 (taken_by (ended_part text) c.in_ok-report.report (g.K.Sink.taken c.args.sink.now) (g.K.Sink.taken c.write_report.new.sink) c.in_err-write_report.field-0.0 (c.in_ok-report.ensures.report_is text s) c.in_err-write_report.ensures.write c.in_err-write_report.ensures.part)

pub returns-clause-reported : goal.returns-clause-reported
returns-clause-reported g c text s =
    let report_is = reported_by (ended_part text) c.in_ok-report.report (g.K.Sink.taken c.args.sink.now) (g.K.Sink.taken c.write_report.new.sink) (c.in_ok-report.ensures.report_is text s) c.in_ok-write_report.ensures.ok in
    record { sound = report_is.sound; taken = report_is.taken; counted = ap (λ r. r.summary) c.report.view_is ∙ report_is.counted }

pub returns-clause-write_failed : goal.returns-clause-write_failed
returns-clause-write_failed g c e = absurd (no_fault Summary _ Write e)

pub returns-clause-again : goal.returns-clause-again
returns-clause-again g c fault r = absurd (no_fault _ c.in_ok-report.report fault (c.in_ok-report.ensures.again fault r))

pub returns-in_err-write_report-clause-refused : goal.returns-in_err-write_report-clause-refused
returns-in_err-write_report-clause-refused g c text s = passed_on c.from_residual-in_err-write_report.result c.in_err-write_report.field-0.0 _ c.from_residual-in_err-write_report.ensures.1 (subst (IsRefusal (ended_part text)) (sym c.in_err-write_report.ensures.write) (c.in_ok-report.ensures.report_is text s).sound)

pub returns-in_err-write_report-clause-missing : goal.returns-in_err-write_report-clause-missing
returns-in_err-write_report-clause-missing g c text s = passed_on c.from_residual-in_err-write_report.result c.in_err-write_report.field-0.0 _ c.from_residual-in_err-write_report.ensures.1 (subst (IsMissing (length (ended_lines text) + 1)) (sym c.in_err-write_report.ensures.write) tt)

pub returns-in_err-write_report-clause-kinds : goal.returns-in_err-write_report-clause-kinds
returns-in_err-write_report-clause-kinds g c = passed_on c.from_residual-in_err-write_report.result c.in_err-write_report.field-0.0 _ c.from_residual-in_err-write_report.ensures.1 (subst IsReportFault (sym c.in_err-write_report.ensures.write) tt)

pub returns-in_err-write_report-clause-unwritten : goal.returns-in_err-write_report-clause-unwritten
returns-in_err-write_report-clause-unwritten g c = passed_on c.from_residual-in_err-write_report.result c.in_err-write_report.field-0.0 _ c.from_residual-in_err-write_report.ensures.1 (λ n. absurd (n c.in_err-write_report.ensures.write))

pub returns-in_err-write_report-clause-again : goal.returns-in_err-write_report-clause-again
returns-in_err-write_report-clause-again g c fault r = absurd (no_fault _ c.in_ok-report.report fault (c.in_ok-report.ensures.again fault r))

pub returns-in_err-report-clause-refused : goal.returns-in_err-report-clause-refused
returns-in_err-report-clause-refused g c text s = passed_on c.from_residual.result c.in_err-report.field-0.0 _ c.from_residual.ensures.1 (refuses (ended_part text) c.in_err-report.field-0.0 (c.in_err-report.ensures.refused text s))

pub returns-in_err-report-clause-missing : goal.returns-in_err-report-clause-missing
returns-in_err-report-clause-missing g c text s = passed_on c.from_residual.result c.in_err-report.field-0.0 _ c.from_residual.ensures.1 (c.in_err-report.ensures.missing text s)

pub returns-in_err-report-clause-kinds : goal.returns-in_err-report-clause-kinds
returns-in_err-report-clause-kinds g c = passed_on c.from_residual.result c.in_err-report.field-0.0 _ c.from_residual.ensures.1 (text_report c.in_err-report.field-0.0 c.in_err-report.ensures.kinds)

pub returns-in_err-report-clause-write_failed : goal.returns-in_err-report-clause-write_failed
returns-in_err-report-clause-write_failed g c e = absurd (unwritten c.in_err-report.field-0.0 c.in_err-report.ensures.kinds (same_fault c.from_residual.result c.in_err-report.field-0.0 Write c.from_residual.ensures.1 e))

pub returns-in_err-report-clause-unwritten : goal.returns-in_err-report-clause-unwritten
returns-in_err-report-clause-unwritten g c = passed_on c.from_residual.result c.in_err-report.field-0.0 _ c.from_residual.ensures.1 (λ n. refl)

pub returns-in_err-report-clause-taken : goal.returns-in_err-report-clause-taken
returns-in_err-report-clause-taken g c text s = passed_on c.from_residual.result c.in_err-report.field-0.0 _ c.from_residual.ensures.1 (untaken (g.K.Sink.taken c.args.sink.now) (trace_report (ended_part text)) c.in_err-report.field-0.0 c.in_err-report.ensures.kinds)

pub returns-in_err-report-clause-again : goal.returns-in_err-report-clause-again
returns-in_err-report-clause-again g c fault r =
    let p = err_from_is_err_and c.from_residual.result c.from_residual.ensures.1 in
    (p.1 ∙ ap (λ f. Err f) (p.2 ∙ is_fault _ c.in_err-report.field-0.0 fault (c.in_err-report.ensures.again fault r)), refl)

pub returns-in_err-report-clause-reported : goal.returns-in_err-report-clause-reported
returns-in_err-report-clause-reported g c text s = IfOk-from_err _ _ c.from_residual.ensures.0

pub returns-in_err-write_report-clause-reported : goal.returns-in_err-write_report-clause-reported
returns-in_err-write_report-clause-reported g c text s = IfOk-from_err _ _ c.from_residual-in_err-write_report.ensures.0
