use Rattle.std.proofs.Common.{◌≡◌, Err, ap, subst, sym}
use Rattle.std.specs.Prelude.{IfErr}
use Rattle.std.proofs.lemmas.Result.{IfOk-from_err}
use Rattle.trace_text.proofs.SourceLemmas.{passed_on}
use Rattle.command_line.specs.Program.{IsScanRefusal, is_followed, lag_of}
use Rattle.command_line.specs.Stopped.{has_workers}
use Rattle.command_line.specs.declared.asked.ScanMode.{ScanMode}
use Rattle.command_line.proofs.StatusLemmas.{follow_refusal, plain_refusal}
use Rattle.command_line.proofs.StopLemmas.{scan_cause, worked_cause}
use Rattle.command_line.proofs.program.run_scan.Goals as goal

pub returns-in-Follow-clause-refused : goal.returns-in-Follow-clause-refused
returns-in-Follow-clause-refused g c text shown =
    subst (λ (mode : ScanMode). IfErr c.follow.result (IsScanRefusal (lag_of mode) (is_followed mode) text (g.S.Source.left c.follow.new.source) (g.S.Source.before c.follow.new.source) (g.K.Sink.taken c.args.sink.now) (g.K.Sink.taken c.follow.new.sink) (g.K.Sink.failures c.follow.new.sink ≡ g.K.Sink.failures c.args.sink.now)))
    (sym c.in-Follow.is) (follow_refusal text (g.S.Source.left c.follow.new.source) (g.S.Source.before c.follow.new.source) (g.K.Sink.taken c.args.sink.now) (g.K.Sink.taken c.follow.new.sink) (g.K.Sink.failures c.follow.new.sink ≡ g.K.Sink.failures c.args.sink.now) c.follow.result (c.follow.ensures.refused text shown) (c.follow.ensures.taken text shown))

pub returns-in-Alone-clause-refused : goal.returns-in-Alone-clause-refused
returns-in-Alone-clause-refused g c text shown =
    subst (λ (mode : ScanMode). IfErr c.scan_alone.result (IsScanRefusal (lag_of mode) (is_followed mode) text (g.S.Source.left c.scan_alone.new.source) (g.S.Source.before c.scan_alone.new.source) (g.K.Sink.taken c.args.sink.now) (g.K.Sink.taken c.scan_alone.new.sink) (g.K.Sink.failures c.scan_alone.new.sink ≡ g.K.Sink.failures c.args.sink.now)))
    (sym c.in-Alone.is) (plain_refusal text (g.S.Source.left c.scan_alone.new.source) (g.S.Source.before c.scan_alone.new.source) (g.K.Sink.taken c.args.sink.now) (g.K.Sink.taken c.scan_alone.new.sink) (g.K.Sink.failures c.scan_alone.new.sink ≡ g.K.Sink.failures c.args.sink.now) c.scan_alone.result (c.scan_alone.ensures.refused text shown) (c.scan_alone.ensures.taken text shown))

pub returns-in_err-scan-in-Workers-clause-refused : goal.returns-in_err-scan-in-Workers-clause-refused
returns-in_err-scan-in-Workers-clause-refused g c text shown =
    let fault = c.in_err-scan-in-Workers.field-0.0 in
    passed_on c.from_residual.result fault _ c.from_residual.ensures.1
    (subst (λ (mode : ScanMode). IsScanRefusal (lag_of mode) (is_followed mode) text (g.S.Source.left c.scan_with.new.source) (g.S.Source.before c.scan_with.new.source) (g.K.Sink.taken c.args.sink.now) (g.K.Sink.taken c.scan_with.new.sink) (g.K.Sink.failures c.scan_with.new.sink ≡ g.K.Sink.failures c.args.sink.now) fault)
    (sym c.in-Workers.is) (c.in_err-scan-in-Workers.ensures.refused text shown, c.in_err-scan-in-Workers.ensures.taken text shown))

pub returns-in_err-scan-in-Workers-clause-reported : goal.returns-in_err-scan-in-Workers-clause-reported
returns-in_err-scan-in-Workers-clause-reported g c text shown = IfOk-from_err _ _ c.from_residual.ensures.0

pub returns-in_err-scan-in-Workers-clause-of_text : goal.returns-in_err-scan-in-Workers-clause-of_text
returns-in_err-scan-in-Workers-clause-of_text g c = IfOk-from_err _ _ c.from_residual.ensures.0

pub returns-in_ok-scan-in-Workers-clause-of_text : goal.returns-in_ok-scan-in-Workers-clause-of_text
returns-in_ok-scan-in-Workers-clause-of_text g c = (c.in_ok-scan-in-Workers.ensures.of_text.0, c.in_ok-scan-in-Workers.ensures.of_text.1)

pub returns-in-Follow-clause-cause : goal.returns-in-Follow-clause-cause
returns-in-Follow-clause-cause g c = scan_cause _ _ _ c.follow.result c.follow.ensures.kinds c.follow.ensures.read_failed c.follow.ensures.write_failed

pub returns-in-Alone-clause-cause : goal.returns-in-Alone-clause-cause
returns-in-Alone-clause-cause g c = scan_cause _ _ _ c.scan_alone.result c.scan_alone.ensures.kinds c.scan_alone.ensures.read_failed c.scan_alone.ensures.write_failed

pub returns-in_err-scan-in-Workers-clause-cause : goal.returns-in_err-scan-in-Workers-clause-cause
returns-in_err-scan-in-Workers-clause-cause g c =
    let fault = c.in_err-scan-in-Workers.field-0.0 in
    passed_on c.from_residual.result fault _ c.from_residual.ensures.1
    (worked_cause _ _ _ fault c.in_err-scan-in-Workers.ensures.kinds (λ e. c.in_err-scan-in-Workers.ensures.read_failed (ap Err e)) (λ e. c.in_err-scan-in-Workers.ensures.write_failed (ap Err e))
    (λ e. (ap has_workers c.in-Workers.is, ap g.S.Source.calls (c.in_err-scan-in-Workers.ensures.start (ap Err e)))))
