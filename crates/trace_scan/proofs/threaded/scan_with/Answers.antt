use Rattle.std.proofs.Common.{◌≡◌, ◌∙◌, Err, ap, subst, sym}
use Rattle.std.specs.Option.{option_map}
use Rattle.std.proofs.lemmas.Result.{IfOk-from_err}
use Rattle.trace_text.proofs.SourceLemmas.{passed_on, same_fault}
use Rattle.line_model.specs.packets.Says.{items_of}
use Rattle.line_model.specs.text.Text.{rows}
use Rattle.live_report.proofs.ReportLemmas.{reported_by, taken_by}
use Rattle.live_report.proofs.ScanLemmas.{memory_refused, report_is, write_refused}
use Rattle.trace_scan.proofs.ThreadedLemmas.{memory_worked, of_walk, part_taken, runs_are, stop_no_write, stop_worked, totals_are, write_worked}
use Rattle.line_model.specs.declared.fault.Fault.{Fault}
use Rattle.line_model.specs.declared.fault.Fault.TheVariants.{Memory, Write}
use Rattle.trace_reading.specs.Readings.{in_flight}
use Rattle.trace_scan.specs.Threaded.{IsStopFault}
use Rattle.trace_scan.proofs.threaded.scan_with.Given.{Over}
use Rattle.line_model.specs.traces.Traces.{trace_plan}
use Rattle.trace_scan.proofs.threaded.scan_with.Goals as goal

pub returns-in_err-report-clause-refused : goal.returns-in_err-report-clause-refused
returns-in_err-report-clause-refused g c text shown =
    let read = c.in_ok-parts.ensures.parts.shown text shown in
    passed_on c.from_residual-in_err-report.result c.in_err-report.field-0.0 _ c.from_residual-in_err-report.ensures.1
    (memory_refused in_flight text (g.S.Source.left c.work_on_trace.new.source) (g.S.Source.before c.work_on_trace.new.source) c.in_err-report.field-0.0
    (c.in_err-report.ensures.plan c.in_ok-parts.parts.read.interface (items_of c.in_ok-parts.parts.read.interface (rows text)) (of_walk (option_map trace_plan (g.S.Source.left c.args.source.now)) (g.G.Gate.ran c.args.gate.now) c.args.workers text c.in_ok-parts.ensures.parts.fed c.in_ok-parts.parts.read c.in_ok-parts.parts.gathered read.0 c.in_ok-parts.ensures.parts.whole)) read.1 read.2 read.0.sound)

pub returns-clause-reported : goal.returns-clause-reported
returns-clause-reported g c text shown =
    let read = (c.in_ok-parts.ensures.parts.shown text shown).0 in
    let is = report_is text c.in_ok-parts.parts.read.interface c.in_ok-report.report read.sound read.header
    (c.in_ok-report.ensures.report c.in_ok-parts.parts.read.interface (items_of c.in_ok-parts.parts.read.interface (rows text)) (of_walk (option_map trace_plan (g.S.Source.left c.args.source.now)) (g.G.Gate.ran c.args.gate.now) c.args.workers text c.in_ok-parts.ensures.parts.fed c.in_ok-parts.parts.read c.in_ok-parts.parts.gathered read c.in_ok-parts.ensures.parts.whole)) in
    let reported = reported_by text c.in_ok-report.report (g.K.Sink.taken c.args.sink.now) (g.K.Sink.taken c.write_report.new.sink) is c.in_ok-write_report.ensures.ok in
    record { sound = reported.sound; taken = reported.taken; counted = ap (λ r. r.summary) c.report.view_is ∙ reported.counted }

pub returns-clause-totals : goal.returns-clause-totals
returns-clause-totals g c text shown =
    totals_are (option_map trace_plan (g.S.Source.left c.args.source.now)) (g.G.Gate.ran c.args.gate.now) c.args.workers text c.in_ok-parts.ensures.parts.fed c.in_ok-parts.parts.read c.in_ok-parts.parts.gathered
    (c.in_ok-parts.ensures.parts.shown text shown).0 c.in_ok-parts.ensures.parts.whole

pub returns-in_err-write_report-clause-refused : goal.returns-in_err-write_report-clause-refused
returns-in_err-write_report-clause-refused g c text shown =
    let read = c.in_ok-parts.ensures.parts.shown text shown in
    passed_on c.from_residual-in_err-write_report.result c.in_err-write_report.field-0.0 _ c.from_residual-in_err-write_report.ensures.1
    (write_refused in_flight text (g.S.Source.left c.work_on_trace.new.source) (g.S.Source.before c.work_on_trace.new.source) c.in_err-write_report.field-0.0 c.in_err-write_report.ensures.write read.1 read.2 read.0.sound)

pub returns-in_err-write_report-clause-taken : goal.returns-in_err-write_report-clause-taken
returns-in_err-write_report-clause-taken g c text shown =
    let read = (c.in_ok-parts.ensures.parts.shown text shown).0 in
    let is = report_is text c.in_ok-parts.parts.read.interface c.in_ok-report.report read.sound read.header
    (c.in_ok-report.ensures.report c.in_ok-parts.parts.read.interface (items_of c.in_ok-parts.parts.read.interface (rows text)) (of_walk (option_map trace_plan (g.S.Source.left c.args.source.now)) (g.G.Gate.ran c.args.gate.now) c.args.workers text c.in_ok-parts.ensures.parts.fed c.in_ok-parts.parts.read c.in_ok-parts.parts.gathered read c.in_ok-parts.ensures.parts.whole)) in
    passed_on c.from_residual-in_err-write_report.result c.in_err-write_report.field-0.0 _ c.from_residual-in_err-write_report.ensures.1
    (taken_by text c.in_ok-report.report (g.K.Sink.taken c.args.sink.now) (g.K.Sink.taken c.write_report.new.sink) c.in_err-write_report.field-0.0 is c.in_err-write_report.ensures.write c.in_err-write_report.ensures.part)

pub returns-in_err-parts-clause-kinds : goal.returns-in_err-parts-clause-kinds
returns-in_err-parts-clause-kinds g c = passed_on c.from_residual.result c.in_err-parts.field-0.0 _ c.from_residual.ensures.1 (stop_worked c.in_err-parts.field-0.0 c.in_err-parts.ensures.stopped.kinds)

-- the merge ran out of memory
merge_needs : (g : Over) (c : goal.After-drop-shares g) → c.in_err-report.field-0.0 ≡ Memory
merge_needs g c =
    let read = c.in_ok-parts.ensures.parts.of_text in
    c.in_err-report.ensures.plan c.in_ok-parts.parts.read.interface (items_of c.in_ok-parts.parts.read.interface (rows read.0))
    (of_walk (option_map trace_plan (g.S.Source.left c.args.source.now)) (g.G.Gate.ran c.args.gate.now) c.args.workers read.0 c.in_ok-parts.ensures.parts.fed c.in_ok-parts.parts.read c.in_ok-parts.parts.gathered read.1 c.in_ok-parts.ensures.parts.whole)

pub returns-in_err-report-clause-kinds : goal.returns-in_err-report-clause-kinds
returns-in_err-report-clause-kinds g c = passed_on c.from_residual-in_err-report.result c.in_err-report.field-0.0 _ c.from_residual-in_err-report.ensures.1 (memory_worked c.in_err-report.field-0.0 (merge_needs g c))

pub returns-in_err-report-clause-part : goal.returns-in_err-report-clause-part
returns-in_err-report-clause-part g c e = absurd (stop_no_write {T = Fault} c.in_err-report.field-0.0 (subst IsStopFault (sym (merge_needs g c)) tt) (ap (λ f. Err f) (same_fault c.from_residual-in_err-report.result c.in_err-report.field-0.0 Write c.from_residual-in_err-report.ensures.1 e)))

pub returns-in_err-parts-clause-part : goal.returns-in_err-parts-clause-part
returns-in_err-parts-clause-part g c e = absurd (stop_no_write {T = Fault} c.in_err-parts.field-0.0 c.in_err-parts.ensures.stopped.kinds (ap (λ f. Err f) (same_fault c.from_residual.result c.in_err-parts.field-0.0 Write c.from_residual.ensures.1 e)))

pub returns-in_err-write_report-clause-kinds : goal.returns-in_err-write_report-clause-kinds
returns-in_err-write_report-clause-kinds g c = passed_on c.from_residual-in_err-write_report.result c.in_err-write_report.field-0.0 _ c.from_residual-in_err-write_report.ensures.1 (write_worked c.in_err-write_report.field-0.0 c.in_err-write_report.ensures.write)

pub returns-in_err-write_report-clause-part : goal.returns-in_err-write_report-clause-part
returns-in_err-write_report-clause-part g c e =
    let text = c.in_ok-parts.ensures.parts.of_text.0 in
    let read = c.in_ok-parts.ensures.parts.of_text.1 in
    let is = report_is text c.in_ok-parts.parts.read.interface c.in_ok-report.report read.sound read.header
    (c.in_ok-report.ensures.report c.in_ok-parts.parts.read.interface (items_of c.in_ok-parts.parts.read.interface (rows text)) (of_walk (option_map trace_plan (g.S.Source.left c.args.source.now)) (g.G.Gate.ran c.args.gate.now) c.args.workers text c.in_ok-parts.ensures.parts.fed c.in_ok-parts.parts.read c.in_ok-parts.parts.gathered read c.in_ok-parts.ensures.parts.whole)) in
    part_taken c.in_err-write_report.field-0.0 text (g.K.Sink.taken c.args.sink.now) (g.K.Sink.taken c.write_report.new.sink) read.sound c.in_err-write_report.ensures.write
    (taken_by text c.in_ok-report.report (g.K.Sink.taken c.args.sink.now) (g.K.Sink.taken c.write_report.new.sink) c.in_err-write_report.field-0.0 is c.in_err-write_report.ensures.write c.in_err-write_report.ensures.part)

pub returns-clause-of_text : goal.returns-clause-of_text
returns-clause-of_text g c =
    let text = c.in_ok-parts.ensures.parts.of_text.0 in
    let read = c.in_ok-parts.ensures.parts.of_text.1 in
    let is = report_is text c.in_ok-parts.parts.read.interface c.in_ok-report.report read.sound read.header
    (c.in_ok-report.ensures.report c.in_ok-parts.parts.read.interface (items_of c.in_ok-parts.parts.read.interface (rows text)) (of_walk (option_map trace_plan (g.S.Source.left c.args.source.now)) (g.G.Gate.ran c.args.gate.now) c.args.workers text c.in_ok-parts.ensures.parts.fed c.in_ok-parts.parts.read c.in_ok-parts.parts.gathered read c.in_ok-parts.ensures.parts.whole)) in
    let reported = reported_by text c.in_ok-report.report (g.K.Sink.taken c.args.sink.now) (g.K.Sink.taken c.write_report.new.sink) is c.in_ok-write_report.ensures.ok in (
      text,
      record { sound = reported.sound; taken = reported.taken; counted = ap (λ r. r.summary) c.report.view_is ∙ reported.counted },
      totals_are (option_map trace_plan (g.S.Source.left c.args.source.now)) (g.G.Gate.ran c.args.gate.now) c.args.workers text c.in_ok-parts.ensures.parts.fed c.in_ok-parts.parts.read c.in_ok-parts.parts.gathered read c.in_ok-parts.ensures.parts.whole,
    )

pub returns-in_err-parts-clause-unasked : goal.returns-in_err-parts-clause-unasked
returns-in_err-parts-clause-unasked g c = c.work_on_trace.ensures.unasked

pub returns-in_err-report-clause-unasked : goal.returns-in_err-report-clause-unasked
returns-in_err-report-clause-unasked g c = c.work_on_trace.ensures.unasked

pub returns-in_err-write_report-clause-unasked : goal.returns-in_err-write_report-clause-unasked
returns-in_err-write_report-clause-unasked g c = c.work_on_trace.ensures.unasked

pub returns-clause-unasked : goal.returns-clause-unasked
returns-clause-unasked g c = c.work_on_trace.ensures.unasked

pub returns-in_err-parts-clause-reported : goal.returns-in_err-parts-clause-reported
returns-in_err-parts-clause-reported g c text shown = IfOk-from_err _ _ c.from_residual.ensures.0

pub returns-in_err-parts-clause-totals : goal.returns-in_err-parts-clause-totals
returns-in_err-parts-clause-totals g c text shown = IfOk-from_err _ _ c.from_residual.ensures.0

pub returns-in_err-parts-clause-of_text : goal.returns-in_err-parts-clause-of_text
returns-in_err-parts-clause-of_text g c = IfOk-from_err _ _ c.from_residual.ensures.0

pub returns-in_err-parts-clause-shares : goal.returns-in_err-parts-clause-shares
returns-in_err-parts-clause-shares g c = IfOk-from_err _ _ c.from_residual.ensures.0

pub returns-in_err-report-clause-reported : goal.returns-in_err-report-clause-reported
returns-in_err-report-clause-reported g c text shown = IfOk-from_err _ _ c.from_residual-in_err-report.ensures.0

pub returns-in_err-report-clause-totals : goal.returns-in_err-report-clause-totals
returns-in_err-report-clause-totals g c text shown = IfOk-from_err _ _ c.from_residual-in_err-report.ensures.0

pub returns-in_err-report-clause-of_text : goal.returns-in_err-report-clause-of_text
returns-in_err-report-clause-of_text g c = IfOk-from_err _ _ c.from_residual-in_err-report.ensures.0

pub returns-in_err-report-clause-shares : goal.returns-in_err-report-clause-shares
returns-in_err-report-clause-shares g c = IfOk-from_err _ _ c.from_residual-in_err-report.ensures.0

pub returns-in_err-write_report-clause-reported : goal.returns-in_err-write_report-clause-reported
returns-in_err-write_report-clause-reported g c text shown = IfOk-from_err _ _ c.from_residual-in_err-write_report.ensures.0

pub returns-in_err-write_report-clause-totals : goal.returns-in_err-write_report-clause-totals
returns-in_err-write_report-clause-totals g c text shown = IfOk-from_err _ _ c.from_residual-in_err-write_report.ensures.0

pub returns-in_err-write_report-clause-of_text : goal.returns-in_err-write_report-clause-of_text
returns-in_err-write_report-clause-of_text g c = IfOk-from_err _ _ c.from_residual-in_err-write_report.ensures.0

pub returns-in_err-write_report-clause-shares : goal.returns-in_err-write_report-clause-shares
returns-in_err-write_report-clause-shares g c = IfOk-from_err _ _ c.from_residual-in_err-write_report.ensures.0

pub returns-clause-runs : goal.returns-clause-runs
returns-clause-runs g c text shown =
    runs_are (option_map trace_plan (g.S.Source.left c.args.source.now)) (g.G.Gate.ran c.args.gate.now) c.args.workers text c.in_ok-parts.ensures.parts.fed c.in_ok-parts.parts.read c.in_ok-parts.parts.gathered
    (c.in_ok-parts.ensures.parts.shown text shown).0 c.in_ok-parts.ensures.parts.whole
