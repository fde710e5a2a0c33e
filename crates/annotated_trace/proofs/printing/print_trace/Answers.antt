use Rattle.std.proofs.Common.{[], IfOk, IfErr, refl, subst, ◌≡◌}
use Rattle.trace_text.proofs.SourceLemmas.{passed_on}
use Rattle.annotated_trace.specs.Printed.{IsPrintOf}
use Rattle.annotated_trace.specs.Printers.{HasFirstPrintOf, HasFollowed, IsPrinted}
use Rattle.annotated_trace.specs.Printing.{HasPassed, StopsPrinting}
use Rattle.annotated_trace.proofs.ReadingLemmas.{end_prints, end_stops, held_of, nothing_written, reading_stops}
use Rattle.annotated_trace.proofs.printing.print_trace.Goals as goal

pub read_to_end-requires-clause-nothing : goal.read_to_end-requires-clause-nothing
read_to_end-requires-clause-nothing g c =
    let printing = c.new-printing.result in
    let fed = c.new-printing.ensures.fed in
    let choice = g.P.Printer.rows printing.printer in
    nothing_written (HasFollowed g.O.TraceObserver g.P.Printer choice) g.O.TraceObserver.size (IsPrintOf (g.P.Printer.form choice) []) (g.K.Sink.taken c.args.sink.now) (g.K.Sink.failures c.args.sink.now) printing refl (record { trace = (fed.trace.0, fed.trace.1, refl); begun = fed.begun })
    c.new-printing.ensures.held (g.met.O.TraceObserver.sized printing.trace [] fed.trace.0)

pub returns-in_err-read_to_end-clause-stopped : goal.returns-in_err-read_to_end-clause-stopped
returns-in_err-read_to_end-clause-stopped g c =
    let fault = c.in_err-read_to_end.field-0.0 in
    let choice = g.P.Printer.rows c.new-printing.result.printer in
    let F = IsPrintOf (g.P.Printer.form choice) [] in
    let left = g.S.Source.left c.args.source.now in
    let after = g.S.Source.left c.read_to_end.new.source in
    let asked = g.S.Source.before c.read_to_end.new.source in
    let before = g.K.Sink.taken c.args.sink.now in
    let taken = g.K.Sink.taken c.read_to_end.new.out in
    let well = g.K.Sink.failures c.read_to_end.new.out ≡ g.K.Sink.failures c.args.sink.now in
    passed_on c.from_residual.result fault
    (StopsPrinting (IsPrintOf (g.P.Printer.form (g.P.Printer.rows c.args.printer)) []) (HasFirstPrintOf (IsPrintOf (g.P.Printer.form (g.P.Printer.rows c.args.printer)) []) (g.P.Printer.closing (g.P.Printer.rows c.args.printer))) left after asked before taken well) c.from_residual.ensures.1
    (subst (λ k. StopsPrinting (IsPrintOf (g.P.Printer.form k) []) (HasFirstPrintOf (IsPrintOf (g.P.Printer.form k) []) (g.P.Printer.closing k)) left after asked before taken well fault) c.new-printing.ensures.fed.trace.2
    (reading_stops (HasFollowed g.O.TraceObserver g.P.Printer choice) g.O.TraceObserver.size F (HasFirstPrintOf F (g.P.Printer.closing choice)) left after asked before taken (g.K.Sink.failures c.args.sink.now) (g.K.Sink.failures c.read_to_end.new.out) c.read_to_end.new.consumer fault c.in_err-read_to_end.ensures.stopped))

pub returns-clause-printed : goal.returns-clause-printed
returns-clause-printed g c =
    let w = c.in_ok-read_to_end.ensures.whole in
    let before = g.K.Sink.taken c.args.sink.now in
    let choice = g.P.Printer.rows c.new-printing.result.printer in
    let F = IsPrintOf (g.P.Printer.form choice) [] in
    let held = held_of (HasFollowed g.O.TraceObserver g.P.Printer choice) g.O.TraceObserver.size F before (g.K.Sink.taken c.read_to_end.new.out) _ _ w.text c.read_to_end.new.consumer w.fed in
    subst
    (λ k.
    IfOk c.end.result (HasPassed (IsPrinted (IsPrintOf (g.P.Printer.form k) []) (g.P.Printer.closing k)) (g.S.Source.left c.args.source.now) (g.S.Source.left c.read_to_end.new.source) (g.S.Source.before c.read_to_end.new.source) before (g.K.Sink.taken c.end.new.sink)))
    c.new-printing.ensures.fed.trace.2
    (end_prints (IsPrinted F (g.P.Printer.closing choice)) (g.S.Source.left c.args.source.now) (g.S.Source.left c.read_to_end.new.source) (g.S.Source.before c.read_to_end.new.source) before (g.K.Sink.taken c.end.new.sink) _ c.end.result w
    (c.end.ensures.printed choice [] w.text before w.fed.fed held))

pub returns-clause-stopped : goal.returns-clause-stopped
returns-clause-stopped g c =
    let w = c.in_ok-read_to_end.ensures.whole in
    let before = g.K.Sink.taken c.args.sink.now in
    let choice = g.P.Printer.rows c.new-printing.result.printer in
    let F = IsPrintOf (g.P.Printer.form choice) [] in
    let held = held_of (HasFollowed g.O.TraceObserver g.P.Printer choice) g.O.TraceObserver.size F before (g.K.Sink.taken c.read_to_end.new.out) _ _ w.text c.read_to_end.new.consumer w.fed in
    subst
    (λ k.
    IfErr c.end.result (StopsPrinting (IsPrintOf (g.P.Printer.form k) []) (HasFirstPrintOf (IsPrintOf (g.P.Printer.form k) []) (g.P.Printer.closing k)) (g.S.Source.left c.args.source.now) (g.S.Source.left c.read_to_end.new.source) (g.S.Source.before c.read_to_end.new.source) before
    (g.K.Sink.taken c.end.new.sink) (g.K.Sink.failures c.end.new.sink ≡ g.K.Sink.failures c.args.sink.now))) c.new-printing.ensures.fed.trace.2
    (end_stops F (HasFirstPrintOf F (g.P.Printer.closing choice)) (g.S.Source.left c.args.source.now) (g.S.Source.left c.read_to_end.new.source) (g.S.Source.before c.read_to_end.new.source) before _ _ g.K.Sink.taken c.read_to_end.new.out c.end.new.sink c.end.result w w.fed.printed
    (c.end.ensures.refused choice w.text w.fed.fed) c.end.ensures.not_written (c.end.ensures.taken choice [] w.text before w.fed.fed held))
