use Rattle.std.proofs.Common.{◌≡◌, ◌∙◌, ap, length, subst}
use Rattle.std.specs.Prelude.{OnErr, OnOk}
use Rattle.line_model.specs.basics.Device.{with_more}
use Rattle.line_model.specs.basics.Written.{HasFront}
use Rattle.line_model.specs.observer.Report.{text_of}
use Rattle.json_lines.specs.Json.{json_text}
use Rattle.annotated_trace.specs.Printed.{HasTaken, HasTakenFirst}
use Rattle.descriptions.specs.Closing.{AreClosingObjects}
use Rattle.descriptions.proofs.SentLemmas.{all_closes, first_closes, first_of_report}
use Rattle.descriptions.proofs.row_objects.RowObjectsPrinterLive.close.Goals as goal

pub returns-in-Ok-clause-ok : goal.returns-in-Ok-clause-ok
returns-in-Ok-clause-ok g c text printed reported =
    let objects = subst (λ r. OnOk r (g.S.Sink.taken c.write_report_objects-sink.result.0 ≡ with_more g.S.LentSink.before.0 (json_text (text_of c.args.report.now)))) c.in-Ok.is c.write_report_objects-sink.ensures.ok in
    all_closes c.write_rest-rest.result c.args.report.now g.S.LentSink.before.0 _ (g.S.Sink.taken c.write_rest-rest.new.sink) objects
    (subst (λ calls. OnOk c.write_rest-rest.result (HasTaken (AreClosingObjects (length calls)) (g.S.Sink.taken c.write_report_objects-sink.result.0) (g.S.Sink.taken c.write_rest-rest.new.sink))) (c.deref.ensures.value ∙ ap (λ r. r.calls) c.report.view_is) c.write_rest-rest.ensures.ok)

pub returns-in-Ok-clause-part : goal.returns-in-Ok-clause-part
returns-in-Ok-clause-part g c text printed reported =
    let objects = subst (λ r. OnOk r (g.S.Sink.taken c.write_report_objects-sink.result.0 ≡ with_more g.S.LentSink.before.0 (json_text (text_of c.args.report.now)))) c.in-Ok.is c.write_report_objects-sink.ensures.ok in
    first_closes c.write_rest-rest.result c.args.report.now g.S.LentSink.before.0 _ (g.S.Sink.taken c.write_rest-rest.new.sink) objects
    (subst (λ calls. OnErr c.write_rest-rest.result (HasTakenFirst (AreClosingObjects (length calls)) (g.S.Sink.taken c.write_report_objects-sink.result.0) (g.S.Sink.taken c.write_rest-rest.new.sink))) (c.deref.ensures.value ∙ ap (λ r. r.calls) c.report.view_is) c.write_rest-rest.ensures.part)

pub returns-in-Err-clause-part : goal.returns-in-Err-clause-part
returns-in-Err-clause-part g c text printed reported =
    first_of_report c.args.report.now g.S.LentSink.before.0 (g.S.Sink.taken c.write_report_objects-sink.result.0)
    (subst (λ r. OnErr r (HasFront g.S.LentSink.before.0 (g.S.Sink.taken c.write_report_objects-sink.result.0) (json_text (text_of c.args.report.now)))) c.in-Err.is c.write_report_objects-sink.ensures.part)
