use Rattle.std.proofs.Common.{◌∙◌, ap}
use Rattle.line_model.specs.basics.Device.{with_more}
use Rattle.line_model.specs.observer.Report.{text_of}
use Rattle.json_lines.proofs.JsonLemmas.{part_of_text}
use Rattle.descriptions.proofs.report_objects.write_report_objects.Goals as goal

pub returns-in-Err-clause-part : goal.returns-in-Err-clause-part
returns-in-Err-clause-part g c =
    let written = c.in-Err.ensures.part in
    let taken_is = written.3 ∙ ap (λ taken. with_more taken written.0) c.new-json.ensures.taken in
    let part = c.finish-lent.ensures.part written.0 taken_is in
    let whole = part_of_text (text_of c.args.report.now) written.0 written.1 part.0 part.1 written.2 part.2 in
    (part.0, whole.0, whole.1, part.3)
