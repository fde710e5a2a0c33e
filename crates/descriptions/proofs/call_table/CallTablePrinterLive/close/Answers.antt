use Rattle.std.proofs.Common.{◌∙◌, ap, subst}
use Rattle.std.specs.Prelude.{OnErr, OnOk}
use Rattle.line_model.specs.basics.Records.{Report}
use Rattle.line_model.specs.text.Text.{lines_of}
use Rattle.annotated_trace.specs.Printed.{HasTaken, HasTakenFirst}
use Rattle.descriptions.specs.CallSums.{sum_at}
use Rattle.descriptions.specs.Circuits.{kept_host}
use Rattle.descriptions.specs.CallTable.{IsCallTable, IsTableOf}
use Rattle.descriptions.proofs.CallSumLemmas.{all_taken, first_taken, table_of}
use Rattle.descriptions.proofs.call_table.CallTablePrinterLive.close.Goals as goal

pub returns-clause-ok : goal.returns-clause-ok
returns-clause-ok g c text printed reported =
    let t = c.args.self.now in
    let calls = c.as_slice.ensures.value ∙ ap (λ (r : Report). r.calls) c.report.view_is in
    all_taken c.write_table.result.1 (IsCallTable g.K.TableKind.form (sum_at t.findings) (sum_at t.segments_t) (kept_host t.past.circuits) c.args.report.now.calls) (IsTableOf g.K.TableKind.form (lines_of text) c.args.report.now.calls) g.S.LentSink.before.0 (g.S.Sink.taken c.write_table.result.0)
    (λ bytes. table_of g.K.TableKind.form text t c.args.report.now c.args.report.now.calls bytes printed.1 printed.2 reported)
    (subst (λ cs. OnOk c.write_table.result.1 (HasTaken (IsCallTable g.K.TableKind.form (sum_at t.findings) (sum_at t.segments_t) (kept_host t.past.circuits) cs) g.S.LentSink.before.0 (g.S.Sink.taken c.write_table.result.0))) calls
    (subst (λ form. OnOk c.write_table.result.1 (HasTaken (IsCallTable form (sum_at t.findings) (sum_at t.segments_t) (kept_host t.past.circuits) c.as_slice.result.now) g.S.LentSink.before.0 (g.S.Sink.taken c.write_table.result.0))) c.form.ensures c.write_table.ensures.ok))

pub returns-clause-part : goal.returns-clause-part
returns-clause-part g c text printed reported =
    let t = c.args.self.now in
    let calls = c.as_slice.ensures.value ∙ ap (λ (r : Report). r.calls) c.report.view_is in
    first_taken c.write_table.result.1 (IsCallTable g.K.TableKind.form (sum_at t.findings) (sum_at t.segments_t) (kept_host t.past.circuits) c.args.report.now.calls) (IsTableOf g.K.TableKind.form (lines_of text) c.args.report.now.calls) g.S.LentSink.before.0 (g.S.Sink.taken c.write_table.result.0)
    (λ bytes. table_of g.K.TableKind.form text t c.args.report.now c.args.report.now.calls bytes printed.1 printed.2 reported)
    (subst (λ cs. OnErr c.write_table.result.1 (HasTakenFirst (IsCallTable g.K.TableKind.form (sum_at t.findings) (sum_at t.segments_t) (kept_host t.past.circuits) cs) g.S.LentSink.before.0 (g.S.Sink.taken c.write_table.result.0))) calls
    (subst (λ form. OnErr c.write_table.result.1 (HasTakenFirst (IsCallTable form (sum_at t.findings) (sum_at t.segments_t) (kept_host t.past.circuits) c.as_slice.result.now) g.S.LentSink.before.0 (g.S.Sink.taken c.write_table.result.0))) c.form.ensures c.write_table.ensures.part))
