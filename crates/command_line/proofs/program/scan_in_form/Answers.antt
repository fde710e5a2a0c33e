use Rattle.std.proofs.Common.{◌≡◌, arith, subst, sym}
use Rattle.command_line.specs.Program.{IsReportStatus, IsStatusOf, is_followed, lag_of, status_of}
use Rattle.command_line.proofs.StatusLemmas.{any_status, refused_lines, scan_status}
use Rattle.command_line.proofs.program.scan_in_form.Goals as goal

pub returns-then-report-clause-shown : goal.returns-then-report-clause-shown
returns-then-report-clause-shown g c text shown =
    subst (λ json. IsStatusOf (lag_of c.args.report.mode) json (is_followed c.args.report.mode) text (g.S.Source.left c.scan_json.new.source) (g.S.Source.before c.scan_json.new.source) (g.K.Sink.taken c.args.sink.now) (g.K.Sink.taken c.scan_json.new.sink)
    (g.K.Sink.failures c.scan_json.new.sink ≡ g.K.Sink.failures c.args.sink.now) (status_of c.scan_json.result))
    (sym c.if-report.true) (c.scan_json.ensures.shown text shown)

pub returns-else-report-clause-shown : goal.returns-else-report-clause-shown
returns-else-report-clause-shown g c text shown =
    subst (λ json. IsStatusOf (lag_of c.args.report.mode) json (is_followed c.args.report.mode) text (g.S.Source.left c.run_scan.new.source) (g.S.Source.before c.run_scan.new.source) (g.K.Sink.taken c.args.sink.now) (g.K.Sink.taken c.run_scan.new.sink)
    (g.K.Sink.failures c.run_scan.new.sink ≡ g.K.Sink.failures c.args.sink.now) (status_of c.run_scan.result))
    (sym c.if-report.false)
    (scan_status (lag_of c.args.report.mode) (is_followed c.args.report.mode) text _ _ _ _ _ c.run_scan.result (c.run_scan.ensures.reported text shown) (c.run_scan.ensures.refused text shown) (λ e well. omega (arith, c.run_scan.ensures.write_failed e, well)))

pub returns-then-report-clause-reported : goal.returns-then-report-clause-reported
returns-then-report-clause-reported g c =
    subst (λ json. IsReportStatus json (g.K.Sink.taken c.args.sink.now) (g.K.Sink.taken c.scan_json.new.sink) (status_of c.scan_json.result)) (sym c.if-report.true) c.scan_json.ensures.reported

pub returns-else-report-clause-reported : goal.returns-else-report-clause-reported
returns-else-report-clause-reported g c =
    subst (λ json. IsReportStatus json (g.K.Sink.taken c.args.sink.now) (g.K.Sink.taken c.run_scan.new.sink) (status_of c.run_scan.result)) (sym c.if-report.false) (any_status _ _ c.run_scan.result c.run_scan.ensures.of_text)

pub returns-else-report-clause-refused : goal.returns-else-report-clause-refused
returns-else-report-clause-refused g c text shown = refused_lines (lag_of c.args.report.mode) (is_followed c.args.report.mode) text _ _ _ _ _ c.run_scan.result (c.run_scan.ensures.refused text shown)
