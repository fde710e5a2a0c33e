use Rattle.std.proofs.Common.{◌≡◌, [], IfErr, IfOk, subst}
use Rattle.annotated_trace.specs.Annotation.{IsAnnotatedLine}
use Rattle.annotated_trace.specs.Printed.{IsPrintOf}
use Rattle.annotated_trace.specs.Printers.{HasFirstPrintOf, IsPrinted}
use Rattle.annotated_trace.specs.Printing.{HasPassed, StopsPrinting}
use Rattle.annotated_trace.proofs.AnnotationLemmas.{Closes, passed_annotated, stops_annotating}
use Rattle.annotated_trace.proofs.annotating.annotate.Goals as goal

pub returns-clause-annotated : goal.returns-clause-annotated
returns-clause-annotated g c =
    let left = g.S.Source.left c.args.source.now in
    let after = g.S.Source.left c.print_trace.new.source in
    let asked = g.S.Source.before c.print_trace.new.source in
    let before = g.K.Sink.taken c.args.sink.now in
    let taken = g.K.Sink.taken c.print_trace.new.sink in
    passed_annotated (g.D.Describer.rows c.args.describer) left after asked before taken c.print_trace.result
    (subst (λ d. IfOk c.print_trace.result (HasPassed (IsPrinted (IsPrintOf (IsAnnotatedLine (g.D.Describer.rows d)) []) Closes) left after asked before taken)) c.new.ensures c.print_trace.ensures.printed)

pub returns-clause-stopped : goal.returns-clause-stopped
returns-clause-stopped g c =
    let left = g.S.Source.left c.args.source.now in
    let after = g.S.Source.left c.print_trace.new.source in
    let asked = g.S.Source.before c.print_trace.new.source in
    let before = g.K.Sink.taken c.args.sink.now in
    let taken = g.K.Sink.taken c.print_trace.new.sink in
    let well = g.K.Sink.failures c.print_trace.new.sink ≡ g.K.Sink.failures c.args.sink.now in
    stops_annotating (g.D.Describer.rows c.args.describer) left after asked before taken well c.print_trace.result
    (subst (λ d. IfErr c.print_trace.result (StopsPrinting (IsPrintOf (IsAnnotatedLine (g.D.Describer.rows d)) []) (HasFirstPrintOf (IsPrintOf (IsAnnotatedLine (g.D.Describer.rows d)) []) Closes) left after asked before taken well)) c.new.ensures c.print_trace.ensures.stopped)
