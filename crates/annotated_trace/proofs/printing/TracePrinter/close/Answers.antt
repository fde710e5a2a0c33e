use Rattle.std.proofs.Common.{ap, Err, [], OnOk, refl, subst}
use Rattle.line_model.specs.declared.fault.Fault.{Fault}
use Rattle.trace_text.proofs.SourceLemmas.{passed_on, same_fault as passed_same}
use Rattle.line_model.specs.basics.Device.{with_more}
use Rattle.line_model.specs.text.Text.{lines_of}
use Rattle.annotated_trace.specs.Printed.{HasTaken, StopsClosing}
use Rattle.annotated_trace.specs.Printers.{PrintOf}
use Rattle.annotated_trace.proofs.EndOfText.{all_closed, all_lines, close_refused, first_closed}
use Rattle.annotated_trace.proofs.StopLemmas.{no_other, no_write, text_kind, write_cause, write_kind, write_refused}
use Rattle.line_model.specs.declared.fault.Fault.TheVariants.{Write}
use Rattle.annotated_trace.proofs.printing.TracePrinter.close.Goals as goal

pub returns-clause-printed : goal.returns-clause-printed
returns-clause-printed g c choice gone text before s none h =
    all_closed (PrintOf g.P.Printer choice gone) (g.P.Printer.closing choice) text before (g.K.Sink.taken c.args.sink.now) (g.K.Sink.taken c.send_closing.new.sink) c.args.self.held.items c.in_ok-report.report c.send_closing.result none h (c.in_ok-report.ensures.report_is text s.trace.0)
    (subst (λ k. OnOk c.send_closing.result (HasTaken (g.P.Printer.closing k (lines_of text) c.in_ok-report.report) (with_more (g.K.Sink.taken c.args.sink.now) c.args.self.held.items) (g.K.Sink.taken c.send_closing.new.sink))) s.trace.2
    (c.send_closing.ensures.ok text (all_lines (λ ls bytes. g.P.Printer.printed c.args.self.printer ls) text [] none s.trace.1) (c.in_ok-report.ensures.report_is text s.trace.0))) c.send_closing.ensures.sums

pub returns-clause-refused : goal.returns-clause-refused
returns-clause-refused g c choice text s = write_refused c.send_closing.result text (c.in_ok-report.ensures.report_is text s.trace.0).sound c.send_closing.ensures.write

pub returns-clause-taken : goal.returns-clause-taken
returns-clause-taken g c choice gone text before s none h w =
    first_closed (PrintOf g.P.Printer choice gone) (g.P.Printer.closing choice) text before (g.K.Sink.taken c.args.sink.now) (g.K.Sink.taken c.send_closing.new.sink) c.args.self.held.items c.in_ok-report.report none h (c.in_ok-report.ensures.report_is text s.trace.0)
    (subst (λ k. StopsClosing (g.P.Printer.closing k (lines_of text) c.in_ok-report.report) c.args.self.held.items (g.K.Sink.taken c.args.sink.now) (g.K.Sink.taken c.send_closing.new.sink)) s.trace.2
    (write_cause c.send_closing.result Write _ (c.send_closing.ensures.part text (all_lines (λ ls bytes. g.P.Printer.printed c.args.self.printer ls) text [] none s.trace.1) (c.in_ok-report.ensures.report_is text s.trace.0)) w))

pub returns-clause-not_written : goal.returns-clause-not_written
returns-clause-not_written g c = no_other c.send_closing.result _ c.send_closing.ensures.write

pub returns-clause-kinds : goal.returns-clause-kinds
returns-clause-kinds g c = write_kind c.send_closing.result c.send_closing.ensures.write

pub returns-clause-write_failed : goal.returns-clause-write_failed
returns-clause-write_failed g c w = write_cause c.send_closing.result Write _ c.send_closing.ensures.cause w

pub returns-in_err-report-clause-refused : goal.returns-in_err-report-clause-refused
returns-in_err-report-clause-refused g c choice text s = passed_on c.from_residual.result c.in_err-report.field-0.0 _ c.from_residual.ensures.1 (close_refused text c.in_err-report.field-0.0 (c.in_err-report.ensures.refused text s.trace.0))

pub returns-in_err-report-clause-taken : goal.returns-in_err-report-clause-taken
returns-in_err-report-clause-taken g c choice gone text before s none h w = absurd (no_write {T = Fault} c.in_err-report.field-0.0 c.in_err-report.ensures.kinds (ap (λ f. Err f) (passed_same c.from_residual.result c.in_err-report.field-0.0 Write c.from_residual.ensures.1 w)))

pub returns-in_err-report-clause-not_written : goal.returns-in_err-report-clause-not_written
returns-in_err-report-clause-not_written g c = passed_on c.from_residual.result c.in_err-report.field-0.0 _ c.from_residual.ensures.1 (λ other. refl)

pub returns-in_err-report-clause-kinds : goal.returns-in_err-report-clause-kinds
returns-in_err-report-clause-kinds g c = passed_on c.from_residual.result c.in_err-report.field-0.0 _ c.from_residual.ensures.1 (text_kind c.in_err-report.field-0.0 c.in_err-report.ensures.kinds)

pub returns-in_err-report-clause-write_failed : goal.returns-in_err-report-clause-write_failed
returns-in_err-report-clause-write_failed g c w = absurd (no_write {T = Fault} c.in_err-report.field-0.0 c.in_err-report.ensures.kinds (ap (λ f. Err f) (passed_same c.from_residual.result c.in_err-report.field-0.0 Write c.from_residual.ensures.1 w)))
