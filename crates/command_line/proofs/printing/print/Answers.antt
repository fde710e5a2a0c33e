use Rattle.std.proofs.Common.{◌≡◌, subst, sym}
use Rattle.std.specs.Prelude.{IfErr, IfOk}
use Rattle.command_line.specs.Findings.{PrintsFindings, StopsFindings}
use Rattle.command_line.specs.Printing.{PrintsRows, PrintsTo, StopsRows, StopsTo}
use Rattle.command_line.specs.declared.asked.OutputForm.{OutputForm}
use Rattle.command_line.proofs.StopLemmas.{printing_scan, scan_cause}
use Rattle.command_line.proofs.printing.print.Goals as goal

pub returns-in-Objects-clause-printed : goal.returns-in-Objects-clause-printed
returns-in-Objects-clause-printed g c =
    subst (λ (form : OutputForm). IfOk c.print_trace.result (PrintsTo g.S.Source g.K.Sink (record { form = form; rows = c.args.printing.rows }) c.args.source.now c.print_trace.new.source c.args.sink.now c.print_trace.new.sink)) (sym c.in-Objects.is)
    (subst (λ rows. IfOk c.print_trace.result (PrintsRows rows (g.S.Source.left c.args.source.now) (g.S.Source.left c.print_trace.new.source) (g.S.Source.before c.print_trace.new.source)
    (g.K.Sink.taken c.args.sink.now) (g.K.Sink.taken c.print_trace.new.sink))) c.new-rows.ensures c.print_trace.ensures.printed)

pub returns-in-Objects-clause-stopped : goal.returns-in-Objects-clause-stopped
returns-in-Objects-clause-stopped g c =
    subst (λ (form : OutputForm). IfErr c.print_trace.result (StopsTo g.S.Source g.K.Sink (record { form = form; rows = c.args.printing.rows }) c.args.source.now c.print_trace.new.source c.args.sink.now c.print_trace.new.sink)) (sym c.in-Objects.is)
    (subst (λ rows. IfErr c.print_trace.result (StopsRows rows (g.S.Source.left c.args.source.now) (g.S.Source.left c.print_trace.new.source) (g.S.Source.before c.print_trace.new.source)
    (g.K.Sink.taken c.args.sink.now) (g.K.Sink.taken c.print_trace.new.sink) (g.K.Sink.failures c.print_trace.new.sink ≡ g.K.Sink.failures c.args.sink.now))) c.new-rows.ensures c.print_trace.ensures.stopped)

pub returns-in-Findings-clause-printed : goal.returns-in-Findings-clause-printed
returns-in-Findings-clause-printed g c =
    subst (λ (form : OutputForm). IfOk c.print_trace-in-Findings.result (PrintsTo g.S.Source g.K.Sink (record { form = form; rows = c.args.printing.rows }) c.args.source.now c.print_trace-in-Findings.new.source c.args.sink.now c.print_trace-in-Findings.new.sink)) (sym c.in-Findings.is)
    (subst (λ rows. IfOk c.print_trace-in-Findings.result (PrintsFindings rows (g.S.Source.left c.args.source.now) (g.S.Source.left c.print_trace-in-Findings.new.source) (g.S.Source.before c.print_trace-in-Findings.new.source)
    (g.K.Sink.taken c.args.sink.now) (g.K.Sink.taken c.print_trace-in-Findings.new.sink))) c.new-findings.ensures c.print_trace-in-Findings.ensures.printed)

pub returns-in-Findings-clause-stopped : goal.returns-in-Findings-clause-stopped
returns-in-Findings-clause-stopped g c =
    subst (λ (form : OutputForm). IfErr c.print_trace-in-Findings.result (StopsTo g.S.Source g.K.Sink (record { form = form; rows = c.args.printing.rows }) c.args.source.now c.print_trace-in-Findings.new.source c.args.sink.now c.print_trace-in-Findings.new.sink)) (sym c.in-Findings.is)
    (subst (λ rows. IfErr c.print_trace-in-Findings.result (StopsFindings rows (g.S.Source.left c.args.source.now) (g.S.Source.left c.print_trace-in-Findings.new.source) (g.S.Source.before c.print_trace-in-Findings.new.source)
    (g.K.Sink.taken c.args.sink.now) (g.K.Sink.taken c.print_trace-in-Findings.new.sink) (g.K.Sink.failures c.print_trace-in-Findings.new.sink ≡ g.K.Sink.failures c.args.sink.now))) c.new-findings.ensures c.print_trace-in-Findings.ensures.stopped)

pub returns-in-Comments-clause-cause : goal.returns-in-Comments-clause-cause
returns-in-Comments-clause-cause g c = scan_cause _ _ _ c.annotate.result (printing_scan c.annotate.result c.annotate.ensures.kinds) c.annotate.ensures.read_failed c.annotate.ensures.write_failed

pub returns-in-Objects-clause-cause : goal.returns-in-Objects-clause-cause
returns-in-Objects-clause-cause g c = scan_cause _ _ _ c.print_trace.result (printing_scan c.print_trace.result c.print_trace.ensures.kinds) c.print_trace.ensures.read_failed c.print_trace.ensures.write_failed

pub returns-in-Findings-clause-cause : goal.returns-in-Findings-clause-cause
returns-in-Findings-clause-cause g c = scan_cause _ _ _ c.print_trace-in-Findings.result (printing_scan c.print_trace-in-Findings.result c.print_trace-in-Findings.ensures.kinds) c.print_trace-in-Findings.ensures.read_failed c.print_trace-in-Findings.ensures.write_failed

pub returns-in-Table-clause-cause : goal.returns-in-Table-clause-cause
returns-in-Table-clause-cause g c = scan_cause _ _ _ c.print_trace-in-Table.result (printing_scan c.print_trace-in-Table.result c.print_trace-in-Table.ensures.kinds) c.print_trace-in-Table.ensures.read_failed c.print_trace-in-Table.ensures.write_failed

pub returns-in-TableObjects-clause-cause : goal.returns-in-TableObjects-clause-cause
returns-in-TableObjects-clause-cause g c = scan_cause _ _ _ c.print_trace-in-TableObjects.result (printing_scan c.print_trace-in-TableObjects.result c.print_trace-in-TableObjects.ensures.kinds) c.print_trace-in-TableObjects.ensures.read_failed c.print_trace-in-TableObjects.ensures.write_failed
