use Rattle.std.proofs.Common.{◌≡◌, ◌∙◌, ap, sym}
use Rattle.line_model.specs.basics.Device.{with_more}
use Rattle.line_model.specs.observer.Report.{text_of}
use Rattle.json_lines.specs.Json.{json_text}
use Rattle.json_lines.proofs.ReportLemmas.{report_objects}
use Rattle.json_lines.proofs.BetweenCallsLemmas.{parts_of}
use Rattle.json_lines.proofs.sink.JsonSink.finish.Goals.{then-has_failed, else-has_failed}
use Rattle.json_lines.proofs.sink.JsonSink.finish.Goals as goal

pub returns-clause-part : goal.returns-clause-part
returns-clause-part g c text is =
    parts_of g.S.LentSink.before.0 (g.S.Sink.taken c.args.self.sink) c.args.self.lines.given.bytes text is c.args.self.represented.3

pub returns-clause-rising : goal.returns-clause-rising
returns-clause-rising g c = c.args.self.represented.4

pub returns-clause-report : goal.returns-clause-report
returns-clause-report g c r h e =
    let same : c.args.self.lines.given.bytes ≡ text_of r = cc in
    elim c.if-has_failed.branch [
      | then-has_failed w ↦ rw w.answer-is tt
      | else-has_failed w ↦ rw w.answer-is (c.args.self.represented.2 (sym c.has_failed.ensures ∙ w.if-has_failed.false) ∙ ap (with_more g.S.LentSink.before.0) (ap json_text same ∙ report_objects r h))
    ]
